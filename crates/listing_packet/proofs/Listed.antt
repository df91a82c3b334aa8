-- A gatherer accepts every listing packet that is written, and finds in it its place and its words of the tables. Assumes nothing.
use Rattle.std.proofs.Common.{◌≡◌, refl, sym, ap, ◌∙◌, true, List, ◌++◌, append_assoc, ℕ, ◌+◌, ◌-◌, ◌*◌, ◌%◌, ◌<◌, arith, length}
use Rattle.std.proofs.Common.{take, drop, get_or, length-append, take_at, drop_at, lt-ltb, eq-eqb}
use Rattle.std.proofs.Math.ListN.{get_or-replicate}
use Rattle.wire.specs.Bytes.{one, be16, be24, total, zeros}
use Rattle.wire.specs.Pieces.{padded}
use Rattle.wire.proofs.Bytes.{value24}
use Rattle.wire.proofs.Pieces.{each_all}
use Rattle.tables.specs.Tables.{table_bytes}
use Rattle.packet.specs.Layout.{body_at, inner_bytes, packet_bytes, sequence_counts}
use Rattle.packet.specs.Packet.{header, summed, enveloped}
use Rattle.decode.specs.Read.{sum_good, zeros_good}
use Rattle.packet.proofs.Written.{length_header, length_enveloped}
use Rattle.decode.proofs.Back as back
use Rattle.decode.proofs.Back.{both, behind, within}
use Rattle.listing_packet.specs.Listing.{listing_application, listing_packets, piece_bytes, piece_size, unused_bytes, words_at, address_of}
use Rattle.listing_packet.specs.Listing.{piece_of, place_bytes, listing_packet, address_in, place_in, words_in}
use Rattle.listing_packet.specs.Listing.{listing_header, address_listed, rest_zero, gather_number}
use Rattle.listing_packet.proofs.ListingLaws.{length_words, length_listing}

module _ (frame time i : ℕ) (h : i < listing_packets) (tables : List ℕ) (lt : length tables ≡ table_bytes) where
  abbrev inner : List ℕ
  inner = place_bytes frame i ++ piece_of i tables

  abbrev P : List ℕ
  P = enveloped listing_application (frame % sequence_counts) time inner

  li : length inner ≡ inner_bytes
  li = length_listing i h tables lt frame

  byte_at : (k : ℕ) → k < inner_bytes → get_or P (body_at + k) 0 ≡ get_or inner k 0
  byte_at = back.inner_at listing_application (frame % sequence_counts) time inner li

  place_at : (k : ℕ) → k < 8 → get_or P (body_at + k) 0 ≡ get_or (place_bytes frame i) k 0
  unfolding place_bytes
  place_at k l = byte_at k (omega arith) ∙ within (place_bytes frame i) (piece_of i tables) k l

  address_back : address_in P ≡ address_of i
  unfolding place_bytes
  address_back =
      (λ j. 65536 * place_at 5 (omega arith) j + 256 * place_at 6 (omega arith) j + place_at 7 (omega arith) j) ∙ value24 (address_of i)

  place_back : place_in P ≡ i
  place_back = omega (arith, address_back)

  words_back : take (piece_size i) (drop words_at P) ≡ take (piece_size i) (drop (piece_bytes * i) tables)
  unfolding enveloped summed place_bytes piece_of padded
  words_back =
      let H : List ℕ = header listing_application (frame % sequence_counts) time in
      let W : List ℕ = take (piece_size i) (drop (piece_bytes * i) tables) in
      let Z : List ℕ = zeros (piece_bytes - length W) in
      let S : List ℕ = one (total (H ++ inner) % 256) in
      let s : P ≡ (H ++ place_bytes frame i) ++ (W ++ (Z ++ S)) = simp append_assoc in
      ap (λ (l : List ℕ). take (piece_size i) (drop words_at l)) s
      ∙ ap (take (piece_size i)) (drop_at (H ++ place_bytes frame i) (W ++ (Z ++ S)) words_at
      (length-append H (place_bytes frame i) ∙ omega (arith, length_header listing_application (frame % sequence_counts) time)))
      ∙ take_at W (Z ++ S) (piece_size i) (length_words i h tables lt)

  unused_zero : zeros_good body_at unused_bytes P ≡ true
  unfolding zeros_good place_bytes
  unused_zero =
      each_all _ unused_bytes (λ k l. eq-eqb _ _ (place_at k (omega arith) ∙ within (zeros unused_bytes) (be16 frame ++ be24 (address_of i)) k l
      ∙ get_or-replicate unused_bytes k 0 0 l))

  behind_zero : zeros_good (words_at + piece_size i) (piece_bytes - piece_size i) P ≡ true
  unfolding zeros_good place_bytes piece_of padded
  behind_zero =
      let W : List ℕ = take (piece_size i) (drop (piece_bytes * i) tables) in
      let Z : List ℕ = zeros (piece_bytes - length W) in
      let lw : length W ≡ piece_size i = length_words i h tables lt in
      each_all _ (piece_bytes - piece_size i) (λ k l.
      let q : words_at + piece_size i + k ≡ body_at + (8 + (piece_size i + k)) = omega arith in
      eq-eqb _ _ (ap (λ (n : ℕ). get_or P n 0) q
      ∙ byte_at (8 + (piece_size i + k)) (omega arith)
      ∙ behind (place_bytes frame i) (piece_of i tables) 8 (piece_size i + k) refl
      ∙ behind W Z (piece_size i) k lw
      ∙ get_or-replicate (piece_bytes - length W) k 0 0 (omega arith)))

  header_is : listing_header P ≡ true
  unfolding listing_header
  header_is =
      both (both (eq-eqb _ _ (length_enveloped listing_application (frame % sequence_counts) time inner li))
      (back.fields_back listing_application (frame % sequence_counts) time inner li (omega arith)))
      (eq-eqb _ _ (back.application_back listing_application (frame % sequence_counts) time inner li (omega arith)))

  address_is : address_listed P ≡ true
  unfolding address_listed
  address_is =
      both (lt-ltb (place_in P) listing_packets (omega (arith, place_back)))
      (eq-eqb _ _ (address_back ∙ ap address_of (sym place_back)))

  rest_is : rest_zero P ≡ true
  unfolding rest_zero
  rest_is =
      both unused_zero
      (ap (λ (j : ℕ). zeros_good (words_at + piece_size j) (piece_bytes - piece_size j) P) place_back ∙ behind_zero)

  -- what is written is accepted, and has its place and its words
  pub listing_accepted : gather_number table_bytes (listing_packet frame time i tables) ≡ 0
  unfolding gather_number listing_packet
  listing_accepted =
      rw (header_is, back.sum_back listing_application (frame % sequence_counts) time inner li, address_is, rest_is)

  pub listing_place : place_in (listing_packet frame time i tables) ≡ i
  unfolding listing_packet
  listing_place = place_back

  pub listing_address : address_in (listing_packet frame time i tables) ≡ address_of i
  unfolding listing_packet
  listing_address = address_back

  pub listing_words : words_in (listing_packet frame time i tables) ≡ take (piece_size i) (drop (piece_bytes * i) tables)
  unfolding listing_packet
  listing_words = ap (λ (j : ℕ). take (piece_size j) (drop words_at P)) place_back ∙ words_back

  pub listing_length : length (listing_packet frame time i tables) ≡ packet_bytes
  unfolding listing_packet
  listing_length = length_enveloped listing_application (frame % sequence_counts) time inner li

  pub listing_sum : sum_good (listing_packet frame time i tables) ≡ true
  unfolding listing_packet
  listing_sum = back.sum_back listing_application (frame % sequence_counts) time inner li
