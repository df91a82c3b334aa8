-- `filled` has counted the slots behind it.
use Rattle.std.proofs.Common.{◌≡◌, ltb, take, count_by}
use Rattle.samples.proofs.at_close.filled.Given as goal

abbrev pub invariant-loop-slot : goal.invariant-loop-slot
invariant-loop-slot l = l.count ≡ count_by (ltb 0) (take l.slot-index l.slots)
