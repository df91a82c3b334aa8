-- `records_good` has tested, after i turns, the first i records.
use Rattle.std.specs.Prelude.{◌≡◌}
use Rattle.decode.specs.Read.{records_good}
use Rattle.decode.proofs.faults.records_good.Given as goal

abbrev pub invariant-loop-bytes : goal.invariant-loop-bytes
invariant-loop-bytes l = l.good ≡ records_good l.bytes-index l.packet
