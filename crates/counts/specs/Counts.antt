-- The boxes and beacons that an event counts in (document 01, "One event", rules 1, 2, 4 and 5). Assumes nothing.
use Rattle.std.specs.Prelude.{Bool, cond, List, [], ◌∷◌, ℕ, ◌-◌, Option, Some, None}
use Rattle.std.specs.Option.{option_to_list}
use Rattle.wire.specs.Lists.{bump}
use Rattle.sort.specs.declared.sorting.Outcome.{Outcome}
use Rattle.sort.specs.declared.sorting.Outcome.TheVariants.{Discarded, OutOfBounds, InCell}
use Rattle.boxes.specs.Boxes.{discarded_box, out_of_bounds_box}
use Rattle.counts.specs.declared.Counts.{Counts}

-- rule 2: gain 0 is box 3, gain 1 box 4; rule 5: priority 0 is box 1, priority 1 box 2
abbrev pub gain_box : Bool → ℕ
gain_box gain = cond gain 4 3

abbrev pub priority_box : Bool → ℕ
priority_box priority = cond priority 2 1

-- the boxes that one event counts in
abbrev pub boxes_of : Outcome → List ℕ
boxes_of Discarded = discarded_box ∷ []
boxes_of (OutOfBounds gain) = gain_box gain ∷ out_of_bounds_box ∷ []
boxes_of (InCell gain cell) = gain_box gain ∷ priority_box cell.priority ∷ cell.ratebox ∷ []

-- the beacons that one event counts in: one or none
abbrev pub beacons_of : Outcome → List ℕ
beacons_of Discarded = []
beacons_of (OutOfBounds gain) = []
beacons_of (InCell gain cell) = option_to_list cell.beacon

-- one more for each number of the list; number n is counted at index n - 1
abbrev pub tallied : List ℕ → List ℕ → List ℕ
tallied counts [] = counts
tallied counts (n ∷ ns) = tallied (bump counts (n - 1)) ns

-- the counts with one event more
unfoldable pub counted_of : Counts → Outcome → Counts
counted_of c o = record { boxes = tallied c.boxes (boxes_of o); beacons = tallied c.beacons (beacons_of o) }

-- the parts of it: one more in a box, and in a beacon if there is one
abbrev pub with_box : Counts → ℕ → Counts
with_box c b = record { boxes = bump c.boxes (b - 1); beacons = c.beacons }

abbrev pub with_beacon : Counts → Option ℕ → Counts
with_beacon c (Some n) = record { boxes = c.boxes; beacons = bump c.beacons (n - 1) }
with_beacon c None = c
