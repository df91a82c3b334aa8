-- A record of no kind is carried out by no call.
use Rattle.std.proofs.Common.{refl}
use Rattle.replay_calls.proofs.CallLaws.{no_call}
use Rattle.replay_calls.proofs.calls.Aboard.carry_out_byte.Goals as goal

pub returns-in_default : goal.returns-in_default
returns-in_default c =
    let a = c.args.self.now in
    let none = c.in_default.ensures in
    rw (no_call c.args.kind none a.state a.tables.now a.staging.now a.bitmap.now a.slots.now a.echo.now c.args.body.now)
    (refl, refl, refl, refl, refl, refl)
