-- The numbers, both sums, the ending and zeros are the echo of a wrong sum.
use Rattle.std.proofs.Common.{◌≡◌, ◌++◌, ◌∙◌, List, ℕ, ap, refl, arith, rules}
use Rattle.wire.specs.Pieces.{runs}
use Rattle.wire.specs.Text.{hex2}
use Rattle.std.specs.Int.{w32, to_be_bytes}
use Rattle.echo.specs.Echo.{ending, echoed, package_error_echo}
use Rattle.echo.proofs.EchoLaws.{behind, hex8_is}
use Rattle.echo.proofs.write_package_error.Goals as goal

pub returns : goal.returns
unfolding package_error_echo
returns c =
    let a = c.args in
    let r = ap (runs hex2) c.to_be_bytes.ensures ∙ ap (λ (v : ℕ). runs hex2 (to_be_bytes w32 v)) c.from.ensures ∙ hex8_is a.received (omega arith) in
    let s = ap (runs hex2) c.to_be_bytes-2.ensures ∙ ap (λ (v : ℕ). runs hex2 (to_be_bytes w32 v)) c.from-2.ensures ∙ hex8_is a.computed (omega arith) in
    let e : c.finish.new.self.echo.now ≡ package_error_echo a.address a.placed a.received a.computed =
    c.finish.ensures.whole
    ∙ ap (λ (l : List ℕ). echoed (l ++ ending))
    (behind (behind (behind (behind c.numbers.ensures.written c.text.ensures.written refl) c.hex.ensures.written r) c.text-2.ensures.written refl)
    c.hex-2.ensures.written s) in
    search (rules, e)
