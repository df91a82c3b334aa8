-- Zeros behind what is written make the whole echo.
use Rattle.std.proofs.Common.{◌≡◌, refl, arith, rules, length}
use Rattle.std.proofs.lemmas.List.{length-take-le}
use Rattle.echo.specs.Echo.{written, echo_bytes}
use Rattle.echo.proofs.EchoLaws.{echo_is}
use Rattle.echo.proofs.Writer.zeros.Goals as goal

pub returns-clause-whole : goal.returns-clause-whole
returns-clause-whole c =
    let w = c.args.self.now in
    let l : length w.echo.now ≡ echo_bytes = search rules in
    echo_is w.echo.now (written w) w.at l refl (length-take-le w.at w.echo.now (omega (arith, l))) c.requires c.put_zeros.ensures
