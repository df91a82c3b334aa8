-- After r turns the columns of `block_sum` hold r rows, whose words they weigh as much as.
use Rattle.std.proofs.Common.{ℕ, ◌+◌, ◌*◌, List, ◌≡◌, sym, ap, subst, ◌∙◌, arith}
use Rattle.packet.specs.TableSum.{added_row}
use Rattle.packet.proofs.WordSums.{Joined, none_joined, row_joined}
use Rattle.packet.proofs.table_sum.block_sum.Goals as goal

pub loop-r-init : goal.loop-r-init
loop-r-init c = none_joined _ _

pub loop-r-preserved : goal.loop-r-preserved
loop-r-preserved c =
    let block = c.args.block.now in
    let z : 48 * c.loop-r.r ≡ 0 + 48 * c.loop-r.r = omega arith in
    subst (λ (columns : List ℕ). Joined block 0 (c.loop-r.r + 1) columns) (sym (c.add_row.ensures ∙ ap (added_row c.loop-r.columns block) z))
    (row_joined block 0 c.loop-r.r c.loop-r.columns c.fits-block c.loop-r.invariant)
