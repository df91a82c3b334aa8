-- `table_sum` has added, block by block, the words of the first blocks; the last three words are added behind the loop.
use Rattle.std.proofs.Common.{◌≡◌, ◌≤◌, ◌*◌}
use Rattle.packet.specs.TableSum.{word_sum}
use Rattle.packet.proofs.table_sum.table_sum.Given as goal

abbrev pub invariant-loop-block : goal.invariant-loop-block
invariant-loop-block l = (l.sum ≤ 1099511627776 * l.block-index) × (l.sum ≡ word_sum l.tables 0 (2624 * l.block-index))
