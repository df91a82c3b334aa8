-- `codes_good` has tested, after i turns, the first i codes.
use Rattle.std.specs.Prelude.{ℕ, ◌≡◌, ◌+◌, ◌*◌, ◌<◌, [], get_or}
use Rattle.std.proofs.Common.{arith}
use Rattle.std.proofs.Math.Path.{◌∙◌}
use Rattle.wire.proofs.Bytes.{chunk_byte}
use Rattle.wire.proofs.Pieces.{each_start, each_turn}
use Rattle.rate_code.specs.Editions.{valid_of}
use Rattle.packet.specs.Layout.{body_at}
use Rattle.decode.specs.Read.{code_at, codes_good}
use Rattle.decode.proofs.faults.codes_good.Goals as goal

pub loop-code-init : goal.loop-code-init
unfolding codes_good
loop-code-init c = each_start _

pub loop-code-preserved : goal.loop-code-preserved
unfolding codes_good
loop-code-preserved c =
    let xs = c.args.packet.now in
    let i = c.loop-code.code-index in
    let cs = c.as_chunks.result.0.now in
    let byte : (j m : ℕ) → j < 2 → body_at + (2 * i + j) ≡ m → get_or (get_or cs i []) j 0 ≡ get_or xs m 0 =
    λ j m l e. chunk_byte 2 body_at _ _ i xs cs c.as_chunks.ensures.front (omega arith) j m l (omega arith) e in
    let at = body_at + 2 * i in
    let read : c.from_be_bytes.result ≡ get_or (get_or cs i []) 0 0 * 256 + get_or (get_or cs i []) 1 0 = c.from_be_bytes.ensures in
    let code : c.from_be_bytes.result ≡ code_at xs i =
    omega (arith, read, byte 0 at (omega arith) (omega arith), byte 1 (at + 1) (omega arith) (omega arith)) in
    each_turn _ i c.loop-code.invariant (c.valid-good.ensures ∙ (λ k. valid_of (c.from-edition.ensures k) (code k)))
