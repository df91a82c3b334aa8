-- A listing packet with one byte off is refused, and any with another application number; the number is the lowest. Assumes nothing.
use Rattle.std.proofs.Common.{◌≡◌, refl, false, ◌&&◌, List, ◌++◌, ℕ, ◌-◌, ◌*◌, ◌%◌, ◌<◌, arith, length, take, drop, eqb, eq-eqb}
use Rattle.std.proofs.Common.{ne_eqb}
use Rattle.causes.proofs.CheckLaws.{lowest_by}
use Rattle.packet.specs.Layout.{packet_bytes, sequence_counts}
use Rattle.decode.specs.Read.{fields_good, application_of}
use Rattle.wire.specs.Bytes.{zeros}
use Rattle.wire.specs.Lists.{EachBelow}
use Rattle.wire.specs.Pieces.{padded}
use Rattle.wire.proofs.Lists.{and_false, each_append, each_zeros, each_part}
use Rattle.decode.proofs.Damage.{sum_wrong, bytes_below, bytes_enveloped}
use Rattle.listing_packet.specs.Listing.{listing_application, listing_packets, piece_bytes, piece_size, place_bytes, piece_of, listing_packet}
use Rattle.listing_packet.specs.Listing.{listing_header, gather_checks, gather_number}
use Rattle.listing_packet.proofs.ListingLaws.{wrong_sum}
use Rattle.listing_packet.proofs.Listed.{listing_length, listing_sum}
use Rattle.gatherer.specs.Gather.{gather_done}
use Rattle.gatherer.specs.GatherTheorems.{DamageNotGathered, ListingDamageRefused, OtherNotGathered, gather_place, LowestGathered}

pub damage_not_gathered : DamageNotGathered
damage_not_gathered xs ys l b e d = wrong_sum ys (sum_wrong xs l b e ys d)

-- the bytes of a listing packet
bytes_listing : (frame time i : ℕ) (tables : List ℕ) → frame < 65536 → time < 4294967296 → i < listing_packets → EachBelow 256 tables
    → EachBelow 256 (listing_packet frame time i tables)
unfolding listing_packet place_bytes piece_of padded
bytes_listing frame time i tables hf ht hi b =
    let W : List ℕ = take (piece_size i) (drop (piece_bytes * i) tables) in
    let place = bytes_below (place_bytes frame i) (omega arith) in
    let piece = each_append 256 W (zeros (piece_bytes - length W)) (each_part 256 tables (piece_bytes * i) (piece_size i) (omega arith) b)
    (each_zeros 256 (piece_bytes - length W) (omega arith)) in
    bytes_enveloped listing_application (frame % sequence_counts) time (place_bytes frame i ++ piece_of i tables) (omega arith) ht
    (each_append 256 (place_bytes frame i) (piece_of i tables) place piece)

pub listing_damage_refused : ListingDamageRefused
listing_damage_refused frame time i tables ys hf ht hi lt b d =
    damage_not_gathered (listing_packet frame time i tables) ys (listing_length frame time i hi tables lt)
    (bytes_listing frame time i tables hf ht hi b) (listing_sum frame time i hi tables lt) d

-- ---- the number

pub lowest_gathered : LowestGathered
unfolding gather_done gather_number
lowest_gathered g packet tables = lowest_by gather_place (gather_checks (length tables) packet) refl refl

other_header : (xs : List ℕ) → (application_of xs ≡ listing_application → ⊥) → listing_header xs ≡ false
unfolding listing_header
other_header xs h = rw (ne_eqb _ _ h, and_false (eqb (length xs) packet_bytes && fields_good xs))

pub other_not_gathered : OtherNotGathered
unfolding gather_done gather_number
other_not_gathered g packet tables l h = rw (eq-eqb _ _ l, other_header packet h)
