-- Which boxes and beacons an outcome can name (document 01, "One event"). Assumes nothing.
use Rattle.std.specs.Prelude.{◌≤◌, IfSome}
use Rattle.boxes.specs.Boxes.{box_count, beacon_count, junk_box}
use Rattle.sort.specs.declared.matrix.Cell.{Cell}
use Rattle.sort.specs.declared.sorting.Outcome.{Outcome}
use Rattle.sort.specs.declared.sorting.Outcome.TheVariants.{Discarded, OutOfBounds, InCell}

-- a cell names a box of 7 to 116, and a beacon of 1 to 12 if it names one
abbrev pub CellNames : Cell → Type 0
CellNames cell = (junk_box ≤ cell.ratebox) × (cell.ratebox ≤ box_count) × IfSome cell.beacon (λ n. (1 ≤ n) × (n ≤ beacon_count))

abbrev pub OutcomeNames : Outcome → Type 0
OutcomeNames Discarded = Unit {0}
OutcomeNames (OutOfBounds gain) = Unit {0}
OutcomeNames (InCell gain cell) = CellNames cell
