-- `none_whole` has found, byte by byte, whether none of the staged bytes of those bits is bad.
use Rattle.std.proofs.Common.{ℕ, ap, ◌∙◌, arith, not}
use Rattle.std.proofs.lemmas.List.{get_or-take, length-take-le}
use Rattle.wire.specs.Bits.{bit_at}
use Rattle.wire.specs.Pieces.{each}
use Rattle.wire.proofs.Pieces.{each_start}
use Rattle.load.proofs.BitmapLaws.{none_byte}
use Rattle.load.proofs.bitmap.none_whole.Goals as goal

pub loop-byte-init : goal.loop-byte-init
loop-byte-init c = each_start _

pub loop-byte-preserved : goal.loop-byte-preserved
loop-byte-preserved c =
    let a = c.args in
    let i = c.loop-byte.byte-index in
    let l = length-take-le a.n a.bitmap.now (omega arith) in
    none_byte a.bitmap.now i c.loop-byte.invariant
    (c.none_of_eight-good.ensures ∙ ap (λ (x : ℕ). each 8 (λ j. not (bit_at x j))) (get_or-take a.n a.bitmap.now i 0 (omega arith)))
