-- After r turns the columns of `block_sum` hold r rows, whose words they weigh as much as.
use Rattle.packet.proofs.WordSums.{Joined}
use Rattle.packet.proofs.table_sum.block_sum.Given as goal

abbrev pub invariant-loop-r : goal.invariant-loop-r
invariant-loop-r l = Joined l.block 0 l.r l.columns
