-- `encode` takes the shift from the leading zeros, which is the least one that leaves a quotient below 4,096.
use Rattle.std.proofs.Common.{sym, arith}
use Rattle.std.specs.Int.Count.{count_leading_zeros}
use Rattle.rate_code.proofs.Codes.{code_low, code_bits, code_valid_lem, Bits, bits}
use Rattle.rate_code.proofs.first.FirstRateCode.encode.Goals.{Else-n-lt4096}
use Rattle.rate_code.proofs.first.FirstRateCode.encode.Goals as goal

from_4096 : (c : Else-n-lt4096) → Bits c.args.n (count_leading_zeros 32 c.args.n)
from_4096 c = bits c.args.n c.requires c.if-n-lt4096.false

pub returns-then-n-lt4096-clause-code : goal.returns-then-n-lt4096-clause-code
returns-then-n-lt4096-clause-code c = sym (code_low c.args.n c.if-n-lt4096.true)

pub overflow_sub-s : goal.overflow_sub-s
overflow_sub-s c = (from_4096 (goal.at.overflow_sub-s c).Else-n-lt4096).room

pub overflow_cast-result-2 : goal.overflow_cast-result-2
overflow_cast-result-2 c = omega (arith, from_4096 (goal.at.overflow_cast-result-2 c).Else-n-lt4096)

pub returns-clause-code : goal.returns-clause-code
returns-clause-code c = sym (code_bits _ _ (from_4096 (goal.at.returns-clause-code c).Else-n-lt4096))

pub returns-then-n-lt4096-clause-valid : goal.returns-then-n-lt4096-clause-valid
returns-then-n-lt4096-clause-valid c = code_valid_lem c.args.n c.requires

pub returns-clause-valid : goal.returns-clause-valid
returns-clause-valid c = code_valid_lem c.args.n c.requires
