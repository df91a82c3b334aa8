-- The third check's refusal is the call's: search alone stops at a limit here.
use Rattle.std.proofs.Common.{◌≡◌, true, false, ◌&&◌, not, rules}
use Rattle.command.specs.Asked.{traits_of}
use Rattle.take_line.proofs.judge.Goals as goal

pub returns-in_err-check-3 : goal.returns-in_err-check-3
returns-in_err-check-3 c =
    let t = traits_of c.args.line in
    let right : not t.wrong ≡ true = search rules in
    let free : not (t.staging && c.args.waits) ≡ true = search rules in
    let full : not (t.command && c.args.full) ≡ false = search rules in
    (rw (right, free, full) (search rules), search rules)
