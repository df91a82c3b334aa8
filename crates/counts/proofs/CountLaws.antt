-- One more in a box keeps the boxes bounded, and the steps of an event in a cell are its boxes and beacon. Assumes nothing.
use Rattle.std.proofs.Common.{◌≡◌, refl, Bool, Option, Some, None, [], ◌∷◌, ℕ, ◌+◌, ◌-◌}
use Rattle.std.specs.Option.{option_to_list}
use Rattle.wire.specs.Lists.{EachBelow}
use Rattle.wire.proofs.Lists.{each_bump}
use Rattle.sort.specs.declared.matrix.Cell.{Cell}
use Rattle.sort.specs.declared.sorting.Outcome.TheVariants.{InCell}
use Rattle.counts.specs.declared.Counts.{Counts}
use Rattle.counts.specs.Counts.{gain_box, priority_box, with_box, with_beacon, tallied, counted_of}

-- one more in a box keeps the boxes bounded
pub box_below : (n : ℕ) (c r : Counts) (b : ℕ) → r ≡ with_box c b → EachBelow n c.boxes → EachBelow (n + 1) r.boxes
box_below n c r b e h k = rw e (each_bump n c.boxes (b - 1) h k)

-- the steps of an event in a cell
pub cell_counted : (c : Counts) (gain : Bool) (cell : Cell)
    → with_beacon (with_box (with_box (with_box c (gain_box gain)) (priority_box cell.priority)) cell.ratebox) cell.beacon
    ≡ counted_of c (InCell gain cell)
unfolding counted_of
cell_counted c gain cell =
    elim cell.beacon as (λ (n : Option ℕ). with_beacon (with_box (with_box (with_box c (gain_box gain)) (priority_box cell.priority)) cell.ratebox) n
    ≡ record { boxes = tallied c.boxes (gain_box gain ∷ priority_box cell.priority ∷ cell.ratebox ∷ []); beacons = tallied c.beacons (option_to_list n) })
    [ Some n ↦ refl | None ↦ refl ]
