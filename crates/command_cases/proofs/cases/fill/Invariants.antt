-- Each byte that `fill` writes is made from one of at most 250.
use Rattle.std.proofs.Common.{◌≤◌}
use Rattle.command_cases.proofs.cases.fill.Given as goal

abbrev pub invariant-loop-byte : goal.invariant-loop-byte
invariant-loop-byte l = l.v ≤ 250
