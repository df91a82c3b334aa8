-- The lengths of a listing packet's parts, that its words put one behind the other are its piece, and what an address says. Assumes nothing.
use Rattle.std.proofs.Common.{◌≡◌, refl, ap, ◌∙◌, true, false, ◌⊎◌, inl, inr, List, ◌++◌, ℕ, ◌+◌, ◌-◌, ◌*◌, ◌≤◌, ◌<◌, arith, length}
use Rattle.std.proofs.Common.{take, drop, length-append, ltb, ltb-true, eqb-true}
use Rattle.std.proofs.Math.ListN.{length-replicate}
use Rattle.wire.specs.Bytes.{put, zeros}
use Rattle.wire.specs.Pieces.{padded}
use Rattle.wire.proofs.Bytes.{then, length_part}
use Rattle.wire.proofs.Lists.{and_left, and_right, decide}
use Rattle.causes.specs.Causes.{no_header, packet_sum}
use Rattle.causes.proofs.CheckLaws.{all_passed}
use Rattle.decode.specs.Read.{sum_good}
use Rattle.tables.specs.Tables.{table_bytes}
use Rattle.packet.specs.Layout.{inner_bytes, packet_bytes, sum_at}
use Rattle.listing_packet.specs.Listing.{listing_packets, piece_bytes, piece_size, words_at, address_of, piece_of, place_bytes}
use Rattle.listing_packet.specs.Listing.{address_in, place_in, listing_header, address_listed, gather_checks, gather_number}

-- ---- lengths

module _ (i : ℕ) (h : i < listing_packets) (tables : List ℕ) (lt : length tables ≡ table_bytes) where
  pub length_words : length (take (piece_size i) (drop (piece_bytes * i) tables)) ≡ piece_size i
  length_words = length_part tables (piece_bytes * i) (piece_size i) (omega arith)

  pub length_piece : length (piece_of i tables) ≡ piece_bytes
  unfolding piece_of padded
  length_piece =
      let W : List ℕ = take (piece_size i) (drop (piece_bytes * i) tables) in
      length-append W (zeros (piece_bytes - length W)) ∙ omega (arith, length-replicate {A = ℕ} (piece_bytes - length W) 0, length_words)

  pub length_listing : (frame : ℕ) → length (place_bytes frame i ++ piece_of i tables) ≡ inner_bytes
  unfolding place_bytes
  length_listing frame = length-append (place_bytes frame i) (piece_of i tables) ∙ omega (arith, length_piece)

  -- the words and the zeros behind them
  pub words_written : {x y : List ℕ} (xs : List ℕ) (n : ℕ) → n ≡ piece_size i → sum_at ≤ length xs
      → x ≡ put xs words_at (take (piece_bytes * i + n - piece_bytes * i) (drop (piece_bytes * i) tables))
      → y ≡ put x (words_at + n) (zeros (sum_at - (words_at + n))) → y ≡ put xs words_at (piece_of i tables)
  unfolding piece_of padded
  words_written xs n en l ex ey =
      let D : List ℕ = drop (piece_bytes * i) tables in
      let W : List ℕ = take (piece_size i) D in
      let k : piece_bytes * i + n - piece_bytes * i ≡ piece_size i = omega arith in
      let lw : length W ≡ piece_size i = length_words in
      let z : sum_at - (words_at + n) ≡ piece_bytes - length W = omega arith in
      then xs words_at W (zeros (sum_at - (words_at + n))) (words_at + n) (ex ∙ ap (λ (m : ℕ). put xs words_at (take m D)) k) ey
      (omega arith) (omega arith)
      ∙ ap (λ (m : ℕ). put xs words_at (W ++ zeros m)) z

-- ---- what was judged

pub header_length : (xs : List ℕ) → listing_header xs ≡ true → length xs ≡ packet_bytes
unfolding listing_header
header_length xs h = eqb-true (length xs) packet_bytes (and_left _ _ (and_left _ _ h))

pub listed_place : (xs : List ℕ) → address_listed xs ≡ true → place_in xs < listing_packets
unfolding address_listed
listed_place xs h = ltb-true (place_in xs) listing_packets (and_left _ _ h)

pub listed_address : (xs : List ℕ) → address_listed xs ≡ true → address_in xs ≡ address_of (place_in xs)
unfolding address_listed
listed_address xs h = eqb-true (address_in xs) (address_of (place_in xs)) (and_right (ltb (place_in xs) listing_packets) _ h)

-- what an accepted packet has passed
pub record Passes (tables : ℕ) (xs : List ℕ) : Type 0 where
  pub tables_are : tables ≡ table_bytes
  pub length_is : length xs ≡ packet_bytes
  pub place_fits : place_in xs < listing_packets
  pub address_is : address_in xs ≡ address_of (place_in xs)

pub gather_passes : (tables : ℕ) (xs : List ℕ) → gather_number tables xs ≡ 0 → Passes tables xs
unfolding gather_number
gather_passes tables xs e =
    let p = all_passed (gather_checks tables xs) refl e in
    let listed = p.1.1.1.0 in
    record {
      tables_are = eqb-true tables table_bytes p.0;
      length_is = header_length xs p.1.0;
      place_fits = listed_place xs listed;
      address_is = listed_address xs listed;
    }

-- a wrong sum is refused by 11 or 12
pub wrong_sum : (xs : List ℕ) → sum_good xs ≡ false → (gather_number table_bytes xs ≡ no_header) ⊎ (gather_number table_bytes xs ≡ packet_sum)
unfolding gather_number
wrong_sum xs e = decide (listing_header xs) (λ h. inr (rw (h, e))) (λ h. inl (rw h))
