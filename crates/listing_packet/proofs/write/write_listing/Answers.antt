-- `write_listing` puts place and words behind the header, and the sum behind all: the listing packet.
use Rattle.std.proofs.Common.{refl, arith, ◌++◌}
use Rattle.wire.proofs.Bytes.{then}
use Rattle.packet.specs.Layout.{body_at}
use Rattle.packet.proofs.Written.{envelope_written}
use Rattle.listing_packet.specs.Listing.{words_at, place_bytes, piece_of, listing_packet}
use Rattle.listing_packet.proofs.ListingLaws.{length_listing}
use Rattle.listing_packet.proofs.write.write_listing.Goals as goal

pub returns : goal.returns
unfolding listing_packet place_bytes
returns c =
    let a = c.args in
    let h = c.requires in
    let inner = place_bytes a.frame a.i ++ piece_of a.i a.tables.now in
    envelope_written a.part.now h.0 _ _ _ inner (length_listing a.i h.1 a.tables.now c.told-tables a.frame)
    c.write_header.ensures
    (then _ body_at (place_bytes a.frame a.i) (piece_of a.i a.tables.now) words_at c.write_place.ensures
    c.write_words.ensures refl (omega arith))
    c.write_sum.ensures
