-- `weighed` has added, turn by turn, the first words of the columns.
use Rattle.std.proofs.Common.{◌≡◌, ◌≤◌, ◌*◌}
use Rattle.packet.specs.TableSum.{word_sum}
use Rattle.packet.proofs.table_sum.weighed.Given as goal

abbrev pub invariant-loop-word : goal.invariant-loop-word
invariant-loop-word l = (l.sum ≤ 4311810048 * l.word-index) × (l.sum ≡ word_sum l.columns 0 l.word-index)
