-- `least_count` shifts a number below 8,192 by at most 11, which 32 bits hold.
use Rattle.std.proofs.Common.{sym, ◌∙◌, arith, mod-eq_of_lt, ltb-true}
use Rattle.rate_code.specs.Second.{second_valid}
use Rattle.rate_code.proofs.SecondCodes.{second_least_below, least_low, least_high}
use Rattle.rate_code.proofs.second.SecondRateCode.least_count.Goals as goal

pub returns-then-c-lt4096 : goal.returns-then-c-lt4096
returns-then-c-lt4096 c = c.from.ensures ∙ sym (least_low c.args.c c.if-c-lt4096.true)

pub returns : goal.returns
unfolding second_valid
returns c =
    let x = c.args.c in
    let e = least_high x c.if-c-lt4096.false in
    let b = second_least_below x (ltb-true x 0xD000 c.requires) in
    rw c.from-2.ensures (mod-eq_of_lt (omega (arith, e, b)) ∙ sym e)
