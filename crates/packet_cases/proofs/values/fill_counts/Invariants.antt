-- Each number of `fill_counts`, and every count that it writes, is below 2^24.
use Rattle.std.proofs.Common.{◌<◌}
use Rattle.wire.specs.Lists.{EachBelow}
use Rattle.rate_code.specs.Rate.{count_limit}
use Rattle.packet_cases.proofs.values.fill_counts.Given as goal

abbrev pub invariant-loop-i : goal.invariant-loop-i
invariant-loop-i l = (l.x < count_limit) × EachBelow count_limit l.counts
