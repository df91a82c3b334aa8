-- The four texts that `numbers` writes, one behind the other.
use Rattle.std.proofs.Common.{◌++◌, ◌∙◌, List, ℕ, ap, refl, arith, append_assoc}
use Rattle.wire.specs.Pieces.{runs}
use Rattle.wire.specs.Text.{text, hex2}
use Rattle.echo.specs.Echo.{written, hex8}
use Rattle.echo.proofs.EchoLaws.{behind, hex8_is}
use Rattle.echo.proofs.Writer.numbers.Goals as goal

pub returns-clause-written : goal.returns-clause-written
returns-clause-written c =
    let a = c.args in
    let W : List ℕ = written a.self.now in
    let A : List ℕ = text "binary A:" in
    let N : List ℕ = text " N:" in
    let r = ap (runs hex2) c.to_be_bytes.ensures ∙ hex8_is a.address (omega arith) in
    let s = ap (runs hex2) c.to_be_bytes-2.ensures ∙ hex8_is a.placed (omega arith) in
    behind (behind (behind c.text.ensures.written c.hex.ensures.written r) c.text-2.ensures.written refl) c.hex-2.ensures.written s
    ∙ append_assoc ((W ++ A) ++ hex8 a.address) N (hex8 a.placed)
    ∙ append_assoc (W ++ A) (hex8 a.address) (N ++ hex8 a.placed)
    ∙ append_assoc W A (hex8 a.address ++ N ++ hex8 a.placed)
