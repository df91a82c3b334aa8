-- The totals behind the index have their counts added, and the others are what they were.
use Rattle.std.proofs.Common.{refl, ◌∙◌, arith, length-set, get_or-set_other, rules}
use Rattle.wire.proofs.Pieces.{table_none, table_turn}
use Rattle.take_reading.proofs.add.Goals as goal

pub loop-i-init : goal.loop-i-init
loop-i-init c = (search rules, table_none _, λ k _. refl)

pub loop-i-preserved : goal.loop-i-preserved
loop-i-preserved c =
    let v = c.loop-i.invariant in
    let i = c.loop-i.i in (
      simp length-set v.0,
      table_turn _ c.loop-i.totals i (omega arith) v.1 (omega (arith, v.2 i (omega arith), c.from.ensures)),
      λ k h. get_or-set_other c.loop-i.totals i k _ 0 (omega arith) ∙ v.2 k (omega arith),
    )
