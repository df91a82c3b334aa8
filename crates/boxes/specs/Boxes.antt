-- How many boxes, beacons and totals there are, and the boxes that the rules name by number (document 01, "One event" and "Packets").
-- Assumes nothing.
use Rattle.std.specs.Prelude.{ℕ}

-- "boxes 1 to 116"
abbrev pub box_count : ℕ
box_count = 116

-- "beacon 1 to 12"
abbrev pub beacon_count : ℕ
beacon_count = 12

-- "eight totals"
abbrev pub total_count : ℕ
total_count = 8

-- rule 1: "box 5, discarded"; rule 4: "box 6"; rule 5: "Its box b is used if 7 to 116, else 7"
abbrev pub discarded_box : ℕ
discarded_box = 5

abbrev pub out_of_bounds_box : ℕ
out_of_bounds_box = 6

abbrev pub junk_box : ℕ
junk_box = 7
