-- A gatherer that is given all 250 packets of one table and none of another has that table, and counts what is missing. Assumes nothing.
use Rattle.std.proofs.Common.{◌≡◌, refl, sym, ap, ◌∙◌, inl, inr, ⊎_elim, Bool, true, false, not, ◌&&◌, ◌||◌, List, [], ◌∷◌, ℕ, zero}
use Rattle.std.proofs.Common.{suc, ◌+◌, ◌-◌, ◌*◌, ◌/◌, ◌≤◌, ◌<◌, arith, eq-or-lt_of_le, eqb, ltb, length, take, drop, get_or, set}
use Rattle.std.proofs.Common.{length-take, length-set, get_or-set_same, get_or-set_other, get_or-take, get_or-drop, ext_get_or}
use Rattle.std.proofs.Common.{eqb-true, eq-eqb, ltb-true, ltb-false}
use Rattle.std.proofs.Math.Bool.{false≢true}
use Rattle.std.proofs.Math.ListN.{length-replicate, get_or-replicate}
use borrow.Author.Tests.{eqb-false, not-false}
use Rattle.wire.specs.Bits.{bit_of}
use Rattle.wire.specs.Bytes.{put}
use Rattle.wire.specs.Pieces.{count_of}
use Rattle.wire.proofs.Bytes.{length_put, put_inside, put_before, put_behind, length_part}
use Rattle.wire.proofs.Lists.{decide}
use Rattle.wire.proofs.Pieces.{count_same, count_none}
use Rattle.tables.specs.Tables.{table_bytes}
use Rattle.listing_packet.specs.Listing.{listing_packets, piece_bytes, piece_size, words_at, address_of, address_in, place_in, words_in}
use Rattle.listing_packet.specs.Listing.{gather_number}
use Rattle.listing_packet.proofs.ListingLaws.{gather_passes}
use Rattle.listing_packet.proofs.Listed.{listing_accepted, listing_place, listing_words, listing_address}
use Rattle.gatherer.specs.Gather.{missing_of, with_packet, gather_done}
use Rattle.gatherer.specs.GatherTheorems.{Gatherer, given, given_all, fresh_gatherer, ListingOf, NoneOther, Among, TableGathered}
use Rattle.gatherer.specs.GatherTheorems.{NoneMissing, has_come, MissingCounted}

-- ---- one packet

module _ (g : Gatherer) (p : List ℕ) where
  -- a refused packet changes nothing
  refused_given : eqb (gather_number (length g.tables) p) 0 ≡ false → given g p ≡ g
  unfolding gather_done
  refused_given e = rw e

  -- an accepted one is put to its place
  accepted_given : eqb (gather_number (length g.tables) p) 0 ≡ true
      → given g p ≡ record {
        gathered = with_packet g.gathered (place_in p);
        tables = put g.tables (piece_bytes * place_in p) (words_in p);
      }
  unfolding gather_done
  accepted_given e = rw e

  accepted : eqb (gather_number (length g.tables) p) 0 ≡ true → gather_number (length g.tables) p ≡ 0
  accepted e = eqb-true _ _ e

  -- the buffer keeps its length, and what has come is told of as many packets
  tables_long : length (given g p).tables ≡ length g.tables
  tables_long =
      decide (eqb (gather_number (length g.tables) p) 0)
      (λ e.
      let a = gather_passes (length g.tables) p (accepted e) in
      ap (λ (r : Gatherer). length r.tables) (accepted_given e)
      ∙ length_put (words_in p) g.tables (piece_bytes * place_in p)
      (omega (arith, length-take (piece_size (place_in p)) (drop words_at p), a.tables_are, a.place_fits)))
      (λ e. ap (λ (r : Gatherer). length r.tables) (refused_given e))

  came_long : length (given g p).gathered.came ≡ length g.gathered.came
  came_long =
      decide (eqb (gather_number (length g.tables) p) 0)
      (λ e. ap (λ (r : Gatherer). length r.gathered.came) (accepted_given e) ∙ length-set g.gathered.came (place_in p) true)
      (λ e. ap (λ (r : Gatherer). length r.gathered.came) (refused_given e))

  -- packet i has come now, if this one is accepted and has its address, or before
  came_one : (i : ℕ) → i < length g.gathered.came
      → get_or (given g p).gathered.came i false
      ≡ ((eqb (gather_number (length g.tables) p) 0 && eqb (address_in p) (address_of i)) || get_or g.gathered.came i false)
  came_one i l =
      let came : List Bool = g.gathered.came in
      decide (eqb (gather_number (length g.tables) p) 0)
      (λ e.
      let a = gather_passes (length g.tables) p (accepted e) in
      ap (λ (r : Gatherer). get_or r.gathered.came i false) (accepted_given e)
      ∙ decide (eqb (address_in p) (address_of i))
      (λ q.
      let k : place_in p ≡ i = omega (arith, a.address_is, eqb-true (address_in p) (address_of i) q) in
      rw (e, q) (ap (λ (n : ℕ). get_or (set came n true) i false) k ∙ get_or-set_same came i true false l))
      (λ q. rw (e, q) (get_or-set_other came (place_in p) i true false (λ k. eqb-false (address_in p) (address_of i) q (a.address_is ∙ ap address_of (sym k))))))
      (λ e. rw e (ap (λ (r : Gatherer). get_or r.gathered.came i false) (refused_given e)))

-- ---- a list of packets

or_assoc : (a b c : Bool) → (b || (a || c)) ≡ ((a || b) || c)
or_assoc true true c = refl
or_assoc true false c = refl
or_assoc false true c = refl
or_assoc false false c = refl

pub came_all : (g : Gatherer) (ps : List (List ℕ)) (i n : ℕ) → length g.tables ≡ n → i < length g.gathered.came
    → get_or (given_all g ps).gathered.came i false ≡ (has_come n i ps || get_or g.gathered.came i false)
unfolding given_all has_come
came_all g [] i n e l = refl
came_all g (p ∷ ps) i n e l =
    came_all (given g p) ps i n (tables_long g p ∙ e) (omega (arith, came_long g p))
    ∙ ap (λ (b : Bool). has_come n i ps || b) (came_one g p i l)
    ∙ ap (λ (m : ℕ). has_come n i ps || ((eqb (gather_number m p) 0 && eqb (address_in p) (address_of i)) || get_or g.gathered.came i false)) e
    ∙ or_assoc (eqb (gather_number n p) 0 && eqb (address_in p) (address_of i)) (has_come n i ps) (get_or g.gathered.came i false)

or_true : (a : Bool) → (a || true) ≡ true
or_true true = refl
or_true false = refl

or_false : (a : Bool) → (a || false) ≡ a
or_false true = refl
or_false false = refl

-- of a fresh gatherer
came_fresh : (buffer : List ℕ) (ps : List (List ℕ)) (i : ℕ) → i < listing_packets
    → get_or (given_all (fresh_gatherer buffer) ps).gathered.came i false ≡ has_come (length buffer) i ps
came_fresh buffer ps i l =
    came_all (fresh_gatherer buffer) ps i (length buffer) refl (omega (arith, length-replicate {A = Bool} listing_packets false))
    ∙ ap (λ (b : Bool). has_come (length buffer) i ps || b) (get_or-replicate listing_packets i false false l)
    ∙ or_false (has_come (length buffer) i ps)

pub missing_counted : MissingCounted
unfolding missing_of
missing_counted buffer ps = count_same listing_packets _ _ (λ i l. ap not (came_fresh buffer ps i l))

-- ---- one table

module _ (T : List ℕ) (lT : length T ≡ table_bytes) where
  -- what has come is the table's
  abbrev Agrees : Gatherer → Type 0
  Agrees g = (k : ℕ) → k < table_bytes → get_or g.gathered.came (k / piece_bytes) false ≡ true → get_or g.tables k 0 ≡ get_or T k 0

  -- a piece of the table in its place
  piece_in : (i : ℕ) → i < listing_packets → (xs : List ℕ) → length xs ≡ table_bytes → (k : ℕ) → k < table_bytes → k / piece_bytes ≡ i
      → get_or (put xs (piece_bytes * i) (take (piece_size i) (drop (piece_bytes * i) T))) k 0 ≡ get_or T k 0
  piece_in i h xs lx k l q =
      let W : List ℕ = take (piece_size i) (drop (piece_bytes * i) T) in
      let lw : length W ≡ piece_size i = length_part T (piece_bytes * i) (piece_size i) (omega arith) in
      let j : ℕ = k - piece_bytes * i in
      let e : k ≡ piece_bytes * i + j = omega arith in
      ap (λ (n : ℕ). get_or (put xs (piece_bytes * i) W) n 0) e
      ∙ put_inside W xs (piece_bytes * i) j (omega arith) (omega arith)
      ∙ get_or-take (piece_size i) (drop (piece_bytes * i) T) j 0 (omega arith)
      ∙ get_or-drop (piece_bytes * i) T j 0
      ∙ ap (λ (n : ℕ). get_or T n 0) (sym e)

  piece_out : (i : ℕ) → i < listing_packets → (xs : List ℕ) → length xs ≡ table_bytes → (k : ℕ) → k < table_bytes → (k / piece_bytes ≡ i → ⊥)
      → get_or (put xs (piece_bytes * i) (take (piece_size i) (drop (piece_bytes * i) T))) k 0 ≡ get_or xs k 0
  piece_out i h xs lx k l q =
      let W : List ℕ = take (piece_size i) (drop (piece_bytes * i) T) in
      let lw : length W ≡ piece_size i = length_part T (piece_bytes * i) (piece_size i) (omega arith) in
      decide (ltb k (piece_bytes * i))
      (λ r. put_before W xs (piece_bytes * i) k (omega arith) (ltb-true k (piece_bytes * i) r))
      (λ r. put_behind W xs (piece_bytes * i) k (omega arith) (omega (arith, ltb-false k (piece_bytes * i) r)))

  agrees_one : (g : Gatherer) (p : List ℕ) → length g.tables ≡ table_bytes
      → (gather_number table_bytes p ≡ 0 → (i : ℕ) × (i < listing_packets) × ListingOf T i p) → Agrees g → Agrees (given g p)
  agrees_one g p lg h a k l c =
      let came : List Bool = g.gathered.came in
      let j : ℕ = k / piece_bytes in
      decide (eqb (gather_number (length g.tables) p) 0)
      (λ e.
      let m = h (ap (λ (n : ℕ). gather_number n p) (sym lg) ∙ accepted g p e) in
      let i = m.0 in
      let o = m.2 in
      let pl : place_in p ≡ i = ap place_in o.packet_is ∙ listing_place o.frame o.time i m.1 T lT in
      let w : words_in p ≡ take (piece_size i) (drop (piece_bytes * i) T) =
      ap words_in o.packet_is ∙ listing_words o.frame o.time i m.1 T lT in
      let set_is = ap (λ (r : Gatherer). get_or r.gathered.came j false) (accepted_given g p e) in
      ap (λ (r : Gatherer). get_or r.tables k 0) (accepted_given g p e)
      ∙ (λ x. get_or (put g.tables (piece_bytes * pl x) (w x)) k 0)
      ∙ decide (eqb j i)
      (λ q. piece_in i m.1 g.tables lg k l (eqb-true j i q))
      (λ q.
      let ne = eqb-false j i q in
      piece_out i m.1 g.tables lg k l ne
      ∙ a k l (sym (set_is ∙ get_or-set_other came (place_in p) j true false (λ x. ne (x ∙ pl))) ∙ c)))
      (λ e.
      ap (λ (r : Gatherer). get_or r.tables k 0) (refused_given g p e)
      ∙ a k l (sym (ap (λ (r : Gatherer). get_or r.gathered.came j false) (refused_given g p e)) ∙ c))

  agrees_all : (g : Gatherer) (ps : List (List ℕ)) → length g.tables ≡ table_bytes → NoneOther T ps → Agrees g
      → (length (given_all g ps).tables ≡ table_bytes) × Agrees (given_all g ps)
  unfolding given_all
  agrees_all g [] lg none a = (lg, a)
  agrees_all g (p ∷ ps) lg none a =
      agrees_all (given g p) ps (tables_long g p ∙ lg) none.1 (agrees_one g p lg none.0 a)

  among_come : (i : ℕ) → i < listing_packets → (ps : List (List ℕ)) → Among T i ps → has_come table_bytes i ps ≡ true
  unfolding has_come
  among_come i h [] m = absurd m
  among_come i h (p ∷ ps) (inl o) =
      let n = ap (gather_number table_bytes) o.packet_is ∙ listing_accepted o.frame o.time i h T lT in
      let q = ap address_in o.packet_is ∙ listing_address o.frame o.time i h T lT in
      rw (eq-eqb _ _ n, eq-eqb _ _ q)
  among_come i h (p ∷ ps) (inr m) = rw (among_come i h ps m) (or_true (eqb (gather_number table_bytes p) 0 && eqb (address_in p) (address_of i)))

-- what a fresh gatherer has of the table once all 250 have come
whole : (T buffer : List ℕ) (ps : List (List ℕ)) → length T ≡ table_bytes → length buffer ≡ table_bytes → NoneOther T ps
    → let g = given_all (fresh_gatherer buffer) ps in
    ((i : ℕ) → i < listing_packets → get_or g.gathered.came i false ≡ true) → g.tables ≡ T
whole T buffer ps lT lb none come =
    let g : Gatherer = given_all (fresh_gatherer buffer) ps in
    let start : Agrees T lT (fresh_gatherer buffer) =
    λ k l c. absurd (false≢true (sym (get_or-replicate listing_packets (k / piece_bytes) false false (omega arith)) ∙ c)) in
    let a = agrees_all T lT (fresh_gatherer buffer) ps lb none start in
    ext_get_or 0 g.tables T (a.0 ∙ sym lT) (λ k l.
    let q : k < table_bytes = omega (arith, a.0) in
    a.1 k q (come (k / piece_bytes) (omega arith)))

pub table_gathered : TableGathered
unfolding missing_of
table_gathered T buffer ps lT lb none among =
    let g : Gatherer = given_all (fresh_gatherer buffer) ps in
    let come : (i : ℕ) → i < listing_packets → get_or g.gathered.came i false ≡ true =
    λ i l. came_fresh buffer ps i l ∙ ap (λ (n : ℕ). has_come n i ps) lb ∙ among_come T lT i l ps (among i l) in
    (whole T buffer ps lT lb none come, count_same listing_packets _ _ (λ i l. ap not (come i l)) ∙ count_none listing_packets)

-- where none passes the test, each fails it
none_counted_lem : (p : ℕ → Bool) (n : ℕ) → count_of n p ≡ 0 → (i : ℕ) → i < n → p i ≡ false
unfolding count_of
none_counted_lem p zero e i l = absurd (omega arith)
none_counted_lem p (suc n) e i l =
    let f : p n ≡ false = decide (p n) (λ q. absurd (omega (arith, e, ap bit_of q))) (λ q. q) in
    let k' : i ≤ n = omega arith in
    ⊎_elim (λ (k : i ≡ n). rw k f) (λ (k : i < n). none_counted_lem p n (omega arith) i k) (eq-or-lt_of_le k')

pub none_missing : NoneMissing
unfolding missing_of
none_missing T buffer ps lT lb none e =
    whole T buffer ps lT lb none (λ i l. not-false _ (none_counted_lem _ listing_packets e i l))
