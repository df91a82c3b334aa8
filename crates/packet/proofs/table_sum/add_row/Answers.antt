-- `add_row` has added, after j turns, the first j bytes of the row, and left the other columns as they were.
use Rattle.std.proofs.Common.{refl, ◌∙◌, arith, length-set, get_or-set_other}
use Rattle.wire.proofs.Pieces.{table_none, table_turn, table_end}
use Rattle.packet.specs.TableSum.{added_row}
use Rattle.packet.proofs.table_sum.add_row.Goals as goal

pub loop-j-init : goal.loop-j-init
loop-j-init c = (c.told-columns, table_none _, λ k h. refl)

pub loop-j-preserved : goal.loop-j-preserved
loop-j-preserved c =
    let j = c.loop-j.j in
    let v = c.loop-j.invariant in (
      simp length-set v.0,
      table_turn _ c.loop-j.columns j (omega arith) v.1 (omega (arith, c.from.ensures, v.2 j (omega arith))),
      λ k h. get_or-set_other c.loop-j.columns j k _ 0 (λ e. omega arith) ∙ v.2 k (omega arith),
    )

pub returns : goal.returns
unfolding added_row
returns c =
    let v = c.loop-j.invariant in
    table_end _ c.loop-j.columns c.loop-j.j 48 (omega arith) (omega arith) v.0 v.1
