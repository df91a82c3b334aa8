-- `least_count` shifts a quotient below 4,096 by at most 12, which 32 bits hold.
use Rattle.std.proofs.Common.{arith, mod-eq_of_lt}
use Rattle.rate_code.specs.Rate.{least_count}
use Rattle.rate_code.proofs.Codes.{least_below}
use Rattle.rate_code.proofs.first.FirstRateCode.least_count.Goals as goal

pub returns : goal.returns
unfolding least_count
returns c = rw c.from.ensures (mod-eq_of_lt (omega (arith, least_below c.args.c c.requires)))
