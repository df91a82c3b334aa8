-- `encode` takes e from the leading zeros.
use Rattle.std.specs.Prelude.{◌-◌}
use Rattle.std.proofs.Common.{sym, arith}
use Rattle.std.specs.Int.Count.{count_leading_zeros}
use Rattle.rate_code.proofs.Codes.{bits}
use Rattle.rate_code.proofs.SecondCodes.{Spread, spread, second_low, second_valid_lem, code_spread, low, high}
use Rattle.rate_code.proofs.second.SecondRateCode.encode.Goals.{Else-n-lt4096}
use Rattle.rate_code.proofs.second.SecondRateCode.encode.Goals as goal

from_4096 : (c : Else-n-lt4096) → Spread c.args.n (20 - count_leading_zeros 32 c.args.n)
from_4096 c = spread c.args.n c.requires c.if-n-lt4096.false

pub returns-then-n-lt4096-clause-code : goal.returns-then-n-lt4096-clause-code
returns-then-n-lt4096-clause-code c = sym (second_low c.args.n c.if-n-lt4096.true)

pub overflow_sub-e : goal.overflow_sub-e
overflow_sub-e c = (bits c.args.n c.requires c.if-n-lt4096.false).room

pub returns-clause-code : goal.returns-clause-code
returns-clause-code c = sym (code_spread _ _ (from_4096 (goal.at.returns-clause-code c).Else-n-lt4096))

pub overflow_sub-result : goal.overflow_sub-result
overflow_sub-result c = (from_4096 (goal.at.overflow_sub-result c).Else-n-lt4096).least

pub overflow_cast-result-2 : goal.overflow_cast-result-2
overflow_cast-result-2 c =
    let s = from_4096 (goal.at.overflow_cast-result-2 c).Else-n-lt4096 in omega (arith, s.most, low _ _ s, high _ _ s)

pub returns-then-n-lt4096-clause-valid : goal.returns-then-n-lt4096-clause-valid
returns-then-n-lt4096-clause-valid c = second_valid_lem c.args.n c.requires

pub returns-clause-valid : goal.returns-clause-valid
returns-clause-valid c = second_valid_lem c.args.n c.requires
