-- `codes_good` has tested, after i turns, the first i codes.
use Rattle.std.specs.Prelude.{◌≡◌}
use Rattle.decode.specs.Read.{codes_good}
use Rattle.decode.proofs.faults.codes_good.Given as goal

abbrev pub invariant-loop-code : goal.invariant-loop-code
invariant-loop-code l = l.good ≡ codes_good l.code-index l.packet
