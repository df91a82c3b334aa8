-- The bitmap tells, after a package, its own bytes by its sum and all others as before. Assumes nothing.
use Rattle.std.proofs.Common.{◌≡◌, refl, sym, ap, ◌∙◌, Bool, true, false, ◌&&◌, not, cond, List, [], ◌∷◌, ◌++◌, ℕ, zero, suc, ◌+◌}
use Rattle.std.proofs.Common.{◌*◌, ◌/◌, ◌%◌, ◌≤◌, ◌<◌, arith, add-one, eqb-true, eq-eqb, ne_eqb, le-leb, lt-ltb, le-ltb, leb-true}
use Rattle.std.proofs.Common.{ltb-true, ltb-false, eqb, leb, ltb, length, get_or, set, length-set, replicate, get_or-set_same}
use Rattle.std.proofs.Common.{get_or-set_other, set-set}
use borrow.Author.Tests.{eqb-false}
use Rattle.std.proofs.Math.ListN.{length-replicate, replicate-append-replicate}
use Rattle.std.proofs.Math.Seq.{set-get_or}
use Rattle.wire.specs.Bits.{bit_at, with_bit}
use Rattle.wire.specs.Bytes.{put}
use Rattle.wire.specs.Lists.{EachBelow}
use Rattle.wire.proofs.Bytes.{put_nil, put_put, put_sets, put_behind, length_put}
use Rattle.wire.proofs.BitLaws.{bit_with}
use Rattle.wire.proofs.Lists.{decide}
use Rattle.wire.specs.Pieces.{each}
use Rattle.wire.proofs.Pieces.{each_at, each_same, each_join}
use Rattle.load.specs.Bitmap.{is_bad, with_bad, bitmap_after, none_bad}

-- one bit set or cleared: it is that, and every other is as it was
module _ (bitmap : List ℕ) (i j : ℕ) (bad : Bool) (h : i / 8 < length bitmap) where
  pub one_bit : is_bad (with_bad bitmap i bad) j ≡ cond (eqb i j) bad (is_bad bitmap j)
  one_bit = decide (eqb (i / 8) (j / 8)) (λ e. here (eqb-true _ _ e)) (λ e. elsewhere (eqb-false _ _ e))
    where
      v : ℕ
      v = with_bit (get_or bitmap (i / 8) 0) (i % 8) bad

      here : i / 8 ≡ j / 8 → is_bad (with_bad bitmap i bad) j ≡ cond (eqb i j) bad (is_bad bitmap j)
      here e =
          let w : get_or (set bitmap (i / 8) v) (j / 8) 0 ≡ v =
          ap (λ (k : ℕ). get_or (set bitmap (i / 8) v) k 0) (sym e) ∙ get_or-set_same bitmap (i / 8) v 0 h in
          let b : eqb (i % 8) (j % 8) ≡ eqb i j =
          decide (eqb i j)
          (λ q. rw q (eq-eqb (i % 8) (j % 8) (ap (λ (k : ℕ). k % 8) (eqb-true i j q))))
          (λ q. rw q (ne_eqb (i % 8) (j % 8) (λ (k : i % 8 ≡ j % 8). eqb-false i j q (omega (arith, e, k))))) in
          ap (λ (x : ℕ). bit_at x (j % 8)) w
          ∙ bit_with (get_or bitmap (i / 8) 0) (i % 8) (j % 8) bad (omega arith) (omega arith)
          ∙ (λ k. cond (b k) bad (bit_at (get_or bitmap (e k) 0) (j % 8)))

      elsewhere : (i / 8 ≡ j / 8 → ⊥) → is_bad (with_bad bitmap i bad) j ≡ cond (eqb i j) bad (is_bad bitmap j)
      elsewhere n =
          let b : eqb i j ≡ false = ne_eqb i j (λ (k : i ≡ j). n (ap (λ (x : ℕ). x / 8) k)) in
          rw b (ap (λ (x : ℕ). bit_at x (j % 8)) (get_or-set_other bitmap (i / 8) (j / 8) v 0 (λ q. n (sym q))))

pub length_bitmap : (bitmap : List ℕ) (next n : ℕ) (bad : Bool) → length (bitmap_after bitmap next n bad) ≡ length bitmap
unfolding bitmap_after
length_bitmap bitmap next zero bad = refl
length_bitmap bitmap next (suc n) bad = length-set (bitmap_after bitmap next n bad) _ _ ∙ length_bitmap bitmap next n bad

-- the bytes of a package, and all others
module _ (bitmap : List ℕ) (next i : ℕ) (bad : Bool) where
  none_more : cond (leb next i && ltb i (next + 0)) bad (is_bad bitmap i) ≡ is_bad bitmap i
  none_more = decide (leb next i) (λ q. rw (q, le-ltb i (next + 0) (omega (arith, leb-true next i q)))) (λ q. rw q)

  one_more_lem : (n : ℕ) (x : Bool)
      → cond (eqb (next + n) i) bad (cond (leb next i && ltb i (next + n)) bad x) ≡ cond (leb next i && ltb i (next + suc n)) bad x
  one_more_lem n x =
      decide (eqb (next + n) i)
      (λ e.
      let k = eqb-true (next + n) i e in
      rw (e, le-leb next i (omega (arith, k)), lt-ltb i (next + suc n) (omega (arith, k))))
      (λ e.
      let k = eqb-false (next + n) i e in
      rw e (decide (leb next i)
      (λ q. rw q (decide (ltb i (next + n))
      (λ p. rw (p, lt-ltb i (next + suc n) (omega (arith, ltb-true i (next + n) p))))
      (λ p. let g = ltb-false i (next + n) p in rw (p, le-ltb i (next + suc n) (beyond g k)))))
      (λ q. rw q)))
    where
      beyond : next + n ≤ i → (next + n ≡ i → ⊥) → next + suc n ≤ i
      beyond g k = omega (arith, g, k)

  pub bitmap_tells : (n : ℕ) → next + n ≤ 8 * length bitmap
      → is_bad (bitmap_after bitmap next n bad) i ≡ cond (leb next i && ltb i (next + n)) bad (is_bad bitmap i)
  unfolding bitmap_after
  bitmap_tells zero h = sym none_more
  bitmap_tells (suc n) h =
      one_bit (bitmap_after bitmap next n bad) (next + n) i bad (omega (arith, h, length_bitmap bitmap next n bad))
      ∙ ap (cond (eqb (next + n) i) bad) (bitmap_tells n (omega (arith, h)))
      ∙ one_more_lem n (is_bad bitmap i)

-- ---- eight bits at once

-- the byte with its lowest n bits set or cleared
unfoldable first_bits : (byte n : ℕ) → Bool → ℕ
first_bits x zero b = x
first_bits x (suc n) b = with_bit (first_bits x n b) n b

-- the first n bits of byte k
first_bits_lem : (bitmap : List ℕ) (k n : ℕ) (bad : Bool) → k < length bitmap → n ≤ 8
    → bitmap_after bitmap (8 * k) n bad ≡ set bitmap k (first_bits (get_or bitmap k 0) n bad)
unfolding bitmap_after first_bits
first_bits_lem bitmap k zero bad h l = sym (set-get_or bitmap k 0)
first_bits_lem bitmap k (suc n) bad h l =
    let v = first_bits (get_or bitmap k 0) n bad in
    let d : (8 * k + n) / 8 ≡ k = omega arith in
    let r : (8 * k + n) % 8 ≡ n = omega arith in
    ap (λ (m : List ℕ). with_bad m (8 * k + n) bad) (first_bits_lem bitmap k n bad h (omega arith))
    ∙ (λ i. set (set bitmap k v) (d i) (with_bit (get_or (set bitmap k v) (d i) 0) (r i) bad))
    ∙ ap (λ (x : ℕ). set (set bitmap k v) k (with_bit x n bad)) (get_or-set_same bitmap k v 0 h)
    ∙ set-set bitmap k v (with_bit v n bad)

-- all eight bits, tried for every byte
each_eight : (b : Bool) → each 256 (λ x. eqb (first_bits x 8 b) (cond b 255 0)) ≡ true
unfolding each first_bits
each_eight true = refl
each_eight false = refl

pub eight_bits : (bitmap : List ℕ) (k : ℕ) (bad : Bool) → k < length bitmap → get_or bitmap k 0 < 256
    → set bitmap k (cond bad 255 0) ≡ bitmap_after bitmap (8 * k) 8 bad
eight_bits bitmap k bad h g =
    sym (first_bits_lem bitmap k 8 bad h (omega arith)
    ∙ ap (set bitmap k)
    (eqb-true _ _ (each_at (λ x. eqb (first_bits x 8 bad) (cond bad 255 0)) 256 (get_or bitmap k 0) g (each_eight bad))))

-- a bytes, and the b behind them
bitmap_then : (bitmap : List ℕ) (next a b : ℕ) (bad : Bool)
    → bitmap_after (bitmap_after bitmap next a bad) (next + a) b bad ≡ bitmap_after bitmap next (a + b) bad
unfolding bitmap_after
bitmap_then bitmap next a zero bad =
    let e : a ≡ a + 0 = omega arith in ap (λ (n : ℕ). bitmap_after bitmap next n bad) e
bitmap_then bitmap next a (suc b) bad =
    let e : suc (a + b) ≡ a + suc b = omega arith in
    let q : next + a + b ≡ next + (a + b) = omega arith in
    (λ i. with_bad (bitmap_then bitmap next a b bad i) (q i) bad) ∙ ap (λ (n : ℕ). bitmap_after bitmap next n bad) e

-- the same of a bitmap that two steps made
pub then_bitmap : {m₁ m₂ : List ℕ} (bitmap : List ℕ) (next a b from n : ℕ) (bad : Bool) → m₁ ≡ bitmap_after bitmap next a bad
    → m₂ ≡ bitmap_after m₁ from b bad → from ≡ next + a → a + b ≡ n → m₂ ≡ bitmap_after bitmap next n bad
then_bitmap bitmap next a b from n bad e f q t =
    f ∙ (λ k. bitmap_after (e k) (q k) b bad) ∙ bitmap_then bitmap next a b bad ∙ ap (λ (m : ℕ). bitmap_after bitmap next m bad) t

-- whole bytes, all filled alike
pub filled_bits : (bitmap : List ℕ) (first many : ℕ) (bad : Bool) → EachBelow 256 bitmap → first + many ≤ length bitmap
    → put bitmap first (replicate many (cond bad 255 0)) ≡ bitmap_after bitmap (8 * first) (8 * many) bad
unfolding bitmap_after
filled_bits bitmap first zero bad b h = sym (put_nil bitmap first)
filled_bits bitmap first (suc many) bad b h =
    let v : ℕ = cond bad 255 0 in
    let k : ℕ = first + many in
    let m : List ℕ = put bitmap first (replicate many v) in
    let lr : length (replicate many v) ≡ many = length-replicate {A = ℕ} many v in
    let lm : length m ≡ length bitmap = length_put (replicate many v) bitmap first (omega arith) in
    let g : get_or m k 0 ≡ get_or bitmap k 0 = put_behind (replicate many v) bitmap first k (omega arith) (omega arith) in
    let e : replicate (suc many) v ≡ replicate many v ++ (v ∷ []) =
    rw add-one at (sym (replicate-append-replicate many 1 v)) in
    ap (put bitmap first) e
    ∙ sym (put_put bitmap first (replicate many v) (v ∷ []) k (omega arith) (omega arith))
    ∙ sym (put_sets (v ∷ []) m k (omega arith))
    ∙ then_bitmap bitmap (8 * first) (8 * many) 8 (8 * k) (8 * suc many) bad (filled_bits bitmap first many bad b (omega arith))
    (eight_bits m k bad (omega arith) (omega (arith, g, b k))) (omega arith) (omega arith)

-- none is bad, by whole bytes
pub none_byte : (bitmap : List ℕ) (i : ℕ) {good r : Bool} → good ≡ none_bad bitmap (8 * i)
    → r ≡ each 8 (λ j. not (bit_at (get_or bitmap i 0) j)) → (good && r) ≡ none_bad bitmap (8 * (i + 1))
none_byte bitmap i e f =
    let n : 8 * (i + 1) ≡ 8 * i + 8 = omega arith in
    (λ k. e k && f k)
    ∙ sym (ap (none_bad bitmap) n ∙ each_join (8 * i) 8 (λ j. not (is_bad bitmap j))
    ∙ ap (λ (b : Bool). none_bad bitmap (8 * i) && b) (each_same 8 _ _ (λ j l.
    let d : (8 * i + j) / 8 ≡ i = omega arith in
    let s : (8 * i + j) % 8 ≡ j = omega arith in
    λ k. not (bit_at (get_or bitmap (d k) 0) (s k)))))
