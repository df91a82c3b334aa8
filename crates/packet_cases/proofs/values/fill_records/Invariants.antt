-- Each number of `fill_records` is below 2^24.
use Rattle.std.proofs.Common.{◌<◌}
use Rattle.rate_code.specs.Rate.{count_limit}
use Rattle.packet_cases.proofs.values.fill_records.Given as goal

abbrev pub invariant-loop-i : goal.invariant-loop-i
invariant-loop-i l = l.x < count_limit
