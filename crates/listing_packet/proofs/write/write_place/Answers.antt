-- `write_place` puts three zeros, the frame and the address in a row.
use Rattle.std.proofs.Common.{refl, arith}
use Rattle.wire.proofs.Bytes.{then}
use Rattle.listing_packet.specs.Listing.{place_bytes}
use Rattle.listing_packet.proofs.write.write_place.Goals as goal

pub returns : goal.returns
unfolding place_bytes
returns c =
    let h = c.requires in
    then _ _ _ _ _ (then _ _ _ _ _ c.put_zeros.ensures c.put.ensures refl (omega arith))
    c.put_u24.ensures refl (omega arith)
