-- `missing` has counted, after i turns, those of the first i that have not come.
use Rattle.std.proofs.Common.{ℕ, ◌≡◌, refl, ap, ◌∙◌, Bool, true, false, not, arith, get_or}
use Rattle.std.specs.Int.{from_bool}
use Rattle.wire.specs.Bits.{bit_of}
use Rattle.wire.specs.Pieces.{count_of}
use Rattle.wire.proofs.BitLaws.{bit_small}
use Rattle.wire.proofs.Pieces.{count_turn}
use Rattle.listing_packet.specs.Listing.{listing_packets}
use Rattle.gatherer.specs.Gather.{missing_of}
use Rattle.gatherer.proofs.Gathered.missing.Goals as goal

as_bit : (b : Bool) → from_bool b ≡ bit_of b
as_bit true = refl
as_bit false = refl

pub loop-came-init : goal.loop-came-init
unfolding count_of
loop-came-init c = (omega arith, refl)

pub loop-came-preserved : goal.loop-came-preserved
loop-came-preserved c =
    let came = not (get_or c.args.self.now.came c.loop-came.came-index false) in
    let e : c.from-n.result ≡ bit_of came = c.from-n.ensures ∙ as_bit came in
    (omega (arith, e, bit_small came), count_turn _ c.loop-came.came-index c.loop-came.invariant.1 e)

pub returns : goal.returns
unfolding missing_of
returns c =
    let e : c.loop-came.came-index ≡ listing_packets = omega arith in
    (c.loop-came.invariant.1 ∙ ap (λ (n : ℕ). count_of n (λ k. not (get_or c.args.self.now.came k false))) e, omega arith)
