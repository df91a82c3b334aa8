-- `digest` stays below its modulus.
use Rattle.std.proofs.Common.{◌<◌}
use Rattle.command_cases.proofs.output.digest.Given as goal

abbrev pub invariant-loop-b : goal.invariant-loop-b
invariant-loop-b l = l.h < 65521
