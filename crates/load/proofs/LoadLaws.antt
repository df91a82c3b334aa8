-- Laws of loads. Assumes nothing.
use Rattle.std.proofs.Common.{◌≡◌, refl, sym, ap, subst, ◌∙◌, true, false, ◌&&◌, List, [], ◌∷◌, ◌++◌, append-nil, ℕ, zero, suc, ◌+◌}
use Rattle.std.proofs.Common.{◌-◌, ◌*◌, ◌/◌, ◌%◌, ◌≤◌, ◌<◌, arith, add-one, leb, length, take, drop, get_or, length-append}
use Rattle.std.proofs.Common.{length-take, length-take-le, take-add, take-take, drop-cons, leb-true, Some, None}
use borrow.Author.Tests.{lt-leb}
use Rattle.std.proofs.Math.ListN.{length-replicate}
use Rattle.std.specs.Simd.{first_chunks}
use Rattle.wire.specs.Bytes.{zeros, put, be24}
use Rattle.wire.specs.Pieces.{padded}
use Rattle.wire.proofs.Bytes.{length_put, length_part, then, chunk_at}
use Rattle.wire.proofs.Lists.{and_left, and_right}
use Rattle.wire.proofs.Pieces.{length_padded, padded_is}
use Rattle.tables.specs.Tables.{first, end, table_bytes, byte_of}
use Rattle.load.specs.Staging.{staging_bytes}
use Rattle.std.proofs.lemmas.Option.{same_Some}
use Rattle.load.specs.declared.words.Packing.{Packing}
use Rattle.load.specs.declared.words.Packing.TheVariants.{ThreeBytes, OneByte, TwoBytes}
use Rattle.load.specs.Load.{packing_of, packing_number, word_width, load_words, load_lawful, packed_word, packed_words, packed, loaded}

-- ---- ways to pack

pub packing_none : (y : ℕ) → packing_of y ≡ None → leb y 2 ≡ false
packing_none zero h = absurd (cc)
packing_none (suc zero) h = absurd (cc)
packing_none (suc (suc zero)) h = absurd (cc)
packing_none (suc (suc (suc y))) h = lt-leb _ _ (omega arith)

pub packing_is : (y : ℕ) (p : Packing) → packing_of y ≡ Some p → y ≡ packing_number p
packing_is zero p h = rw (sym (same_Some _ _ h))
packing_is (suc zero) p h = rw (sym (same_Some _ _ h))
packing_is (suc (suc zero)) p h = rw (sym (same_Some _ _ h))
packing_is (suc (suc (suc y))) p h = absurd (cc)

pub packing_small : (p : Packing) → leb (packing_number p) 2 ≡ true
packing_small ThreeBytes = refl
packing_small OneByte = refl
packing_small TwoBytes = refl

-- ---- how many words

-- the third way to pack
pub width_two : (y : ℕ) → (y ≡ 0 → ⊥) → (y ≡ 1 → ⊥) → word_width y ≡ 2
width_two zero h g = absurd (h refl)
width_two (suc zero) h g = absurd (g refl)
width_two (suc (suc y)) h g = refl

pub width_small : (y : ℕ) → word_width y ≤ 3
width_small zero = omega arith
width_small (suc zero) = omega arith
width_small (suc (suc y)) = omega arith

-- no more words than bytes
pub words_few : (y n : ℕ) → load_words y n ≤ n
words_few zero n = omega arith
words_few (suc zero) n = omega arith
words_few (suc (suc y)) n = omega arith

-- some bytes make some words
pub words_some : (y n : ℕ) → 1 ≤ n → 1 ≤ load_words y n
words_some zero n h = omega arith
words_some (suc zero) n h = omega arith
words_some (suc (suc y)) n h = omega arith

-- each word starts within the bytes
pub words_start : (y n k : ℕ) → k < load_words y n → word_width y * k < n
words_start zero n k h = omega arith
words_start (suc zero) n k h = omega arith
words_start (suc (suc y)) n k h = omega arith

-- and no byte stands behind the last word
pub words_hold : (y n : ℕ) → n ≤ word_width y * load_words y n
words_hold zero n = omega arith
words_hold (suc zero) n = omega arith
words_hold (suc (suc y)) n = omega arith

-- what a lawful load keeps to
pub record Lawful (a y reach : ℕ) : Type 0 where
  pub way : y ≤ 2
  pub some : 1 ≤ reach
  pub from : first ≤ a
  pub within : a + load_words y reach ≤ end

pub lawful_is : (a y reach : ℕ) → load_lawful a y reach ≡ true → Lawful a y reach
unfolding load_lawful
lawful_is a y reach h =
    let t₁ = leb y 2 in
    let t₂ = leb 1 reach in
    let t₃ = leb first a in
    let t₄ = leb (a + load_words y reach) end in
    let h₃ = and_left (t₁ && t₂ && t₃) t₄ h in
    let h₂ = and_left (t₁ && t₂) t₃ h₃ in
    record {
      way = leb-true y 2 (and_left t₁ t₂ h₂);
      some = leb-true 1 reach (and_right t₁ t₂ h₂);
      from = leb-true first a (and_right (t₁ && t₂) t₃ h₃);
      within = leb-true (a + load_words y reach) end (and_right (t₁ && t₂ && t₃) t₄ h);
    }

-- its first word is one of the tables'
pub lawful_start : (a y reach : ℕ) → load_lawful a y reach ≡ true → (first ≤ a) × (a < end)
lawful_start a y reach h =
    let l = lawful_is a y reach h in
    (l.from, omega (arith, words_some y reach l.some))

-- the reach is within staging
pub lawful_reach : (a y reach : ℕ) → load_lawful a y reach ≡ true → reach ≤ staging_bytes
lawful_reach a y reach h = reach_by y reach (omega (arith, lawful_is a y reach h)) (words_hold y reach)
  where
    reach_by : (y reach : ℕ) → load_words y reach ≤ 20995 → reach ≤ word_width y * load_words y reach → reach ≤ staging_bytes
    reach_by zero reach l g = omega arith
    reach_by (suc zero) reach l g = omega arith
    reach_by (suc (suc y)) reach l g = omega arith

-- ---- packed words

module _ (w : ℕ) (bytes : List ℕ) (small : w ≤ 3) where
  pub length_packed_word : (k : ℕ) → length (packed_word w bytes k) ≡ 3
  length_packed_word k =
      let p : List ℕ = take w (drop (w * k) bytes) in
      let l : length p ≤ w = omega (arith, length-take w (drop (w * k) bytes)) in
      length-append (zeros (3 - w)) (padded w p) ∙ omega (arith, length_padded w p l, length-replicate {A = ℕ} (3 - w) 0)

  pub length_packed_words : (n : ℕ) → length (packed_words w bytes n) ≡ 3 * n
  unfolding packed_words
  length_packed_words zero = refl
  length_packed_words (suc n) =
      length-append (packed_words w bytes n) (packed_word w bytes n) ∙ omega (arith, length_packed_words n, length_packed_word n)

-- one word more, behind those that were put
pub word_more : {x₁ x₂ : List ℕ} (xs : List ℕ) (at w : ℕ) (bytes : List ℕ) (k : ℕ) → w ≤ 3 → x₁ ≡ put xs at (packed_words w bytes k)
    → x₂ ≡ put x₁ (at + 3 * k) (packed_word w bytes k) → at + 3 * k ≤ length xs → x₂ ≡ put xs at (packed_words w bytes (k + 1))
unfolding packed_words
word_more xs at w bytes k small e₁ e₂ h =
    let l : length (packed_words w bytes k) ≡ 3 * k = length_packed_words w bytes small k in
    rw add-one (then xs at (packed_words w bytes k) (packed_word w bytes k) (at + 3 * k) e₁ e₂ (omega arith) h)

-- a word whose bytes are all there has no zeros behind
full_word : (w : ℕ) (bytes : List ℕ) (k : ℕ) → w * k + w ≤ length bytes
    → packed_word w bytes k ≡ zeros (3 - w) ++ take w (drop (w * k) bytes)
full_word w bytes k h =
    let p : List ℕ = take w (drop (w * k) bytes) in
    let z : w - w ≡ 0 = omega arith in
    ap (λ (l : List ℕ). zeros (3 - w) ++ l)
    (padded_is w w p (length_part bytes (w * k) w h) ∙ ap (λ (n : ℕ). p ++ zeros n) z ∙ append-nil p)

-- words of three bytes are the bytes
pub packed_threes : (bytes : List ℕ) (n : ℕ) → 3 * n ≤ length bytes → take (3 * n) bytes ≡ packed_words 3 bytes n
unfolding packed_words
packed_threes bytes zero h = refl
packed_threes bytes (suc n) h =
    let e : 3 * suc n ≡ 3 * n + 3 = omega arith in
    let f = sym (full_word 3 bytes n (omega arith)) in
    ap (λ (m : ℕ). take m bytes) e ∙ take-add (3 * n) 3 bytes ∙ (λ i. packed_threes bytes n (omega arith) i ++ f i)

-- words of one byte and of two are those bytes' numbers
pub packed_one_byte : (bytes : List ℕ) (k v : ℕ) → k < length bytes → v ≡ get_or bytes k 0 → v < 256
    → be24 v ≡ packed_word 1 bytes k
packed_one_byte bytes k v h e g =
    let a : v / 65536 ≡ 0 = omega arith in
    let b : v / 256 % 256 ≡ 0 = omega arith in
    let c : v % 256 ≡ get_or bytes k 0 = omega arith in
    let i : 1 * k ≡ k = omega arith in
    (λ j. a j ∷ b j ∷ c j ∷ [])
    ∙ sym (full_word 1 bytes k (omega arith)
    ∙ ap (λ (l : List ℕ). zeros 2 ++ take 1 l) (ap (λ (m : ℕ). drop m bytes) i ∙ drop-cons bytes k 0 h))

pub packed_two_bytes : (bytes : List ℕ) (k x y : ℕ) → 2 * k + 1 < length bytes → x ≡ get_or bytes (2 * k) 0
    → y ≡ get_or bytes (2 * k + 1) 0 → x < 256 → y < 256 → be24 (256 * x + y) ≡ packed_word 2 bytes k
packed_two_bytes bytes k x y h e f g t =
    let a : (256 * x + y) / 65536 ≡ 0 = omega arith in
    let b : (256 * x + y) / 256 % 256 ≡ get_or bytes (2 * k) 0 = omega arith in
    let c : (256 * x + y) % 256 ≡ get_or bytes (2 * k + 1) 0 = omega arith in
    let s : suc (2 * k) ≡ 2 * k + 1 = omega arith in
    let d : drop (2 * k) bytes ≡ get_or bytes (2 * k) 0 ∷ get_or bytes (2 * k + 1) 0 ∷ drop (suc (2 * k + 1)) bytes =
    drop-cons bytes (2 * k) 0 (omega arith)
    ∙ ap (λ (l : List ℕ). get_or bytes (2 * k) 0 ∷ l) (ap (λ (m : ℕ). drop m bytes) s ∙ drop-cons bytes (2 * k + 1) 0 h) in
    (λ j. a j ∷ b j ∷ c j ∷ [])
    ∙ sym (full_word 2 bytes k (omega arith) ∙ ap (λ (l : List ℕ). zeros 1 ++ take 2 l) d)

-- a word of so many bytes is its number
pub word_one : (w : ℕ) (bytes : List ℕ) (k v : ℕ) → w ≡ 1 → w * k + w ≤ length bytes → v ≡ get_or bytes (w * k) 0 → v < 256
    → be24 v ≡ packed_word w bytes k
word_one w bytes k v e =
    let P : ℕ → Type 0 = λ w. w * k + w ≤ length bytes → v ≡ get_or bytes (w * k) 0 → v < 256 → be24 v ≡ packed_word w bytes k in
    subst P (sym e) (λ h f g. packed_one_byte bytes k v (omega arith) (f ∙ ap (λ (i : ℕ). get_or bytes i 0) (omega arith)) g)

pub word_two : (w : ℕ) (bytes : List ℕ) (k x y : ℕ) → w ≡ 2 → w * k + w ≤ length bytes → x ≡ get_or bytes (w * k) 0
    → y ≡ get_or bytes (w * k + 1) 0 → x < 256 → y < 256 → be24 (256 * x + y) ≡ packed_word w bytes k
word_two w bytes k x y e =
    let P : ℕ → Type 0 = λ w. w * k + w ≤ length bytes → x ≡ get_or bytes (w * k) 0 → y ≡ get_or bytes (w * k + 1) 0 → x < 256 → y < 256
    → be24 (256 * x + y) ≡ packed_word w bytes k in
    subst P (sym e) (λ h f g s t. packed_two_bytes bytes k x y (omega arith) f g s t)

-- ---- words by chunks

chunk_within : (w n k : ℕ) → 1 ≤ w → w ≤ 2 → k < n / w → w * k + w ≤ n
chunk_within zero n k a b h = absurd (omega arith)
chunk_within (suc zero) n k a b h = omega arith
chunk_within (suc (suc zero)) n k a b h = omega arith
chunk_within (suc (suc (suc w))) n k a b h = absurd (omega arith)

-- a chunk has a word's length, and its word is that of all the bytes
pub chunk_word : (w : ℕ) (xs : List ℕ) (k : ℕ) (chunks : List (List ℕ)) (r : List ℕ) → chunks ≡ first_chunks w (length xs / w) xs
    → r ≡ get_or chunks k r → 1 ≤ w → w ≤ 2 → k < length xs / w → (length r ≡ w) × (packed_word w r 0 ≡ packed_word w xs k)
chunk_word w xs k chunks r f is a b h =
    let e : r ≡ take w (drop (w * k) xs) =
    is ∙ ap (λ (cs : List (List ℕ)). get_or cs k r) f ∙ chunk_at w (length xs / w) k xs r h in
    let z : w * 0 ≡ 0 = omega arith in (
      ap length e ∙ length_part xs (w * k) w (chunk_within w (length xs) k a b h),
      rw (z, e) (ap (λ (p : List ℕ). zeros (3 - w) ++ padded w p) (take-take w w (drop (w * k) xs) (omega arith))),
    )

-- the words that n bytes fill: at most one more takes the rest
pub words_whole : (y n : ℕ) → (n / word_width y ≤ load_words y n) × (load_words y n ≤ n / word_width y + 1) × (word_width y * (n / word_width y) ≤ n)
words_whole zero n = (omega arith, omega arith, omega arith)
words_whole (suc zero) n = (omega arith, omega arith, omega arith)
words_whole (suc (suc y)) n = (omega arith, omega arith, omega arith)

-- three bytes by each way to pack
packed_three : packed 0 (1 ∷ 2 ∷ 3 ∷ []) ≡ 1 ∷ 2 ∷ 3 ∷ []
unfolding packed_words padded
packed_three = refl

packed_one : packed 1 (1 ∷ 2 ∷ 3 ∷ []) ≡ 0 ∷ 0 ∷ 1 ∷ 0 ∷ 0 ∷ 2 ∷ 0 ∷ 0 ∷ 3 ∷ []
unfolding packed_words padded
packed_one = refl

packed_two : packed 2 (1 ∷ 2 ∷ 3 ∷ []) ≡ 0 ∷ 1 ∷ 2 ∷ 0 ∷ 3 ∷ 0 ∷ []
unfolding packed_words padded
packed_two = refl

-- the words written are as many as the range test judged
pub length_packed : (y : ℕ) (bytes : List ℕ) → length (packed y bytes) ≡ 3 * load_words y (length bytes)
length_packed y bytes = length_packed_words (word_width y) bytes (width_small y) (load_words y (length bytes))

-- a lawful load stays within the tables
pub load_within : (a y reach : ℕ) (staging : List ℕ) → load_lawful a y reach ≡ true → reach ≤ length staging
    → byte_of a + length (packed y (take reach staging)) ≤ table_bytes
load_within a y reach staging h g =
    let l = lawful_is a y reach h in
    let n : length (take reach staging) ≡ reach = length-take-le reach staging g in
    let e : length (packed y (take reach staging)) ≡ 3 * load_words y reach =
    length_packed y (take reach staging) ∙ ap (λ (m : ℕ). 3 * load_words y m) n in
    omega arith

pub length_loaded : (tables staging : List ℕ) (a y reach : ℕ) → length tables ≡ table_bytes → load_lawful a y reach ≡ true
    → reach ≤ length staging → length (loaded tables staging a y reach) ≡ table_bytes
unfolding loaded
length_loaded tables staging a y reach lt h g =
    length_put (packed y (take reach staging)) tables (byte_of a) (omega (arith, load_within a y reach staging h g)) ∙ lt
