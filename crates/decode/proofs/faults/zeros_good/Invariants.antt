-- `zeros_good` has tested, after i turns, the first i bytes.
use Rattle.std.specs.Prelude.{◌≡◌}
use Rattle.decode.specs.Read.{zeros_good}
use Rattle.decode.proofs.faults.zeros_good.Given as goal

abbrev pub invariant-loop-byte : goal.invariant-loop-byte
invariant-loop-byte l = l.good ≡ zeros_good l.at l.byte-index l.packet
