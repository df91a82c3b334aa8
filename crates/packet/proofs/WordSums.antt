-- Sums of words: one word more, two runs, and the words of columns to which a row was added. Assumes nothing.
use Rattle.std.proofs.Common.{◌≡◌, refl, sym, ap, ◌∙◌, List, [], ℕ, zero, suc, ◌+◌, ◌-◌, ◌*◌, ◌≤◌, ◌<◌, arith, add_assoc, add-one, length, drop, get_or, replicate, get_or-drop}
use Rattle.std.specs.Simd.{first_chunks}
use Rattle.wire.specs.Lists.{EachBelow}
use Rattle.wire.specs.Bytes.{at24, total}
use Rattle.wire.specs.Pieces.{table}
use Rattle.wire.proofs.Bytes.{chunk_get}
use Rattle.wire.proofs.Lists.{all_at, each_zeros}
use Rattle.wire.proofs.Pieces.{table_at, table_most, length_table, same_table, total_more}
use Rattle.tables.specs.Tables.{first, word_at}
use Rattle.packet.specs.TableSum.{word_sum, added_row}

module _ (xs : List ℕ) (at : ℕ) where
  pub no_words : word_sum xs at 0 ≡ 0
  unfolding word_sum table total
  no_words = refl

  pub word_more : (n : ℕ) → word_sum xs at (n + 1) ≡ word_sum xs at n + at24 xs (at + 3 * n)
  unfolding word_sum
  word_more n = total_more (λ i. at24 xs (at + 3 * i)) n

  word_suc : (n : ℕ) → word_sum xs at (suc n) ≡ word_sum xs at n + at24 xs (at + 3 * n)
  word_suc n = ap (word_sum xs at) (sym (add-one n)) ∙ word_more n

-- from the first byte on
pub first_more : (xs : List ℕ) (n : ℕ) → word_sum xs 0 (n + 1) ≡ word_sum xs 0 n + at24 xs (3 * n)
first_more xs n =
    let e : 0 + 3 * n ≡ 3 * n = omega arith in word_more xs 0 n ∙ ap (λ (m : ℕ). word_sum xs 0 n + at24 xs m) e

first_suc : (xs : List ℕ) (n : ℕ) → word_sum xs 0 (suc n) ≡ word_sum xs 0 n + at24 xs (3 * n)
first_suc xs n = ap (word_sum xs 0) (sym (add-one n)) ∙ first_more xs n

-- the words of two runs, the second where the first ends
pub words_split : (xs : List ℕ) (at m n : ℕ) → word_sum xs at (m + n) ≡ word_sum xs at m + word_sum xs (at + 3 * m) n
words_split xs at m zero =
    let e : m + 0 ≡ m = omega arith in ap (word_sum xs at) e ∙ omega (arith, no_words xs (at + 3 * m))
words_split xs at m (suc n) =
    let k : at + 3 * (m + n) ≡ at + 3 * m + 3 * n = omega arith in
    let e : m + suc n ≡ m + n + 1 = omega arith in
    ap (word_sum xs at) e
    ∙ word_more xs at (m + n)
    ∙ omega (arith, words_split xs at m n, ap (at24 xs) k, word_suc xs (at + 3 * m) n)

-- all of them by their addresses
pub words_by_address : (tables : List ℕ) (n : ℕ) → total (table n (λ i. word_at tables (first + i))) ≡ word_sum tables 0 n
unfolding word_sum
words_by_address tables n =
    ap total (same_table n (λ i. word_at tables (first + i)) (λ i. at24 tables (0 + 3 * i))
    (λ i l. let k : 3 * (first + i - first) ≡ 0 + 3 * i = omega arith in ap (at24 tables) k))

-- ---- words by chunks

-- a chunk's words are those from its place on
pub chunk_words : (n k i : ℕ) (xs : List ℕ) (cs : List (List ℕ)) → cs ≡ first_chunks n k xs → i < k → (m : ℕ) → 3 * m ≤ n
    → word_sum (get_or cs i []) 0 m ≡ word_sum xs (n * i) m
unfolding word_sum
chunk_words n k i xs cs e h m l =
    ap total (same_table m (λ j. at24 (get_or cs i []) (0 + 3 * j)) (λ j. at24 xs (n * i + 3 * j))
    (λ j q.
    let same : (b : ℕ) → b < 3 → get_or (get_or cs i []) (0 + 3 * j + b) 0 ≡ get_or xs (n * i + 3 * j + b) 0 =
    λ b s. chunk_get n k i xs cs e h (0 + 3 * j + b) (n * i + 3 * j + b) (omega arith) (omega arith) in
    let none = chunk_get n k i xs cs e h (0 + 3 * j) (n * i + 3 * j) (omega arith) (omega arith) in
    omega (arith, none, same 1 (omega arith), same 2 (omega arith))))

-- the words behind the last chunk
pub word_behind : (m : ℕ) (xs : List ℕ) (at : ℕ) → at24 (drop m xs) at ≡ at24 xs (m + at)
word_behind m xs at =
    let s : (b : ℕ) → get_or (drop m xs) (at + b) 0 ≡ get_or xs (m + at + b) 0 =
    λ b. get_or-drop m xs (at + b) 0 ∙ ap (λ (p : ℕ). get_or xs p 0) (sym (add_assoc m at b)) in
    omega (arith, get_or-drop m xs at 0, s 1, s 2)

module _ (columns tables : List ℕ) (at : ℕ) where
  -- each column grows by a byte at most
  added_below : (m : ℕ) → EachBelow m columns → EachBelow 256 tables → EachBelow (m + 255) (added_row columns tables at)
  unfolding added_row
  added_below m h b k =
      let f : ℕ → ℕ = λ j. get_or columns j 0 + get_or tables (at + j) 0 in
      omega (arith, h 0, all_at (m + 254) (table 48 f) k (table_most 48 (m + 254) f (λ j. omega (arith, h j, b (at + j)))))

  added_at : (j : ℕ) → j < 48 → get_or (added_row columns tables at) j 0 ≡ get_or columns j 0 + get_or tables (at + j) 0
  unfolding added_row
  added_at j h = table_at (λ j. get_or columns j 0 + get_or tables (at + j) 0) 48 j h

  added_word : (j : ℕ) → j + 3 ≤ 48 → at24 (added_row columns tables at) j ≡ at24 columns j + at24 tables (at + j)
  added_word j h =
      let same : (k : ℕ) → get_or tables (at + j + k) 0 ≡ get_or tables (at + (j + k)) 0 =
      λ k. ap (λ (n : ℕ). get_or tables n 0) (add_assoc at j k) in
      omega (arith, added_at j (omega arith), added_at (j + 1) (omega arith), added_at (j + 2) (omega arith), same 1, same 2)

  -- the words of the columns are those before and those of the row
  added_words : (n : ℕ) → 3 * n ≤ 48 → word_sum (added_row columns tables at) 0 n ≡ word_sum columns 0 n + word_sum tables at n
  added_words zero h = omega (arith, no_words (added_row columns tables at) 0, no_words columns 0, no_words tables at)
  added_words (suc n) h =
      omega (
        arith,
        first_suc (added_row columns tables at) n,
        first_suc columns n,
        word_suc tables at n,
        added_word (3 * n) (omega arith),
        added_words n (omega arith),
      )

-- what the columns are after r rows from `at` on: 48, each of r bytes, and their words the sum of the rows' words
abbrev pub Joined : (tables : List ℕ) (at r : ℕ) (columns : List ℕ) → Type 0
Joined tables at r columns =
    (length columns ≡ 48) × EachBelow (255 * r + 1) columns × (word_sum columns 0 16 ≡ word_sum tables at (16 * r))

module _ (tables : List ℕ) (at : ℕ) where
  pub none_joined : Joined tables at 0 (replicate 48 0)
  unfolding word_sum table total
  none_joined = (refl, each_zeros 1 48 (omega arith), refl)

  pub row_joined : (r : ℕ) (columns : List ℕ) → EachBelow 256 tables → Joined tables at r columns
      → Joined tables at (r + 1) (added_row columns tables (at + 48 * r))
  unfolding added_row
  row_joined r columns b (l, h, e) =
      let k : at + 3 * (16 * r) ≡ at + 48 * r = omega arith in
      let n : 16 * (r + 1) ≡ 16 * r + 16 = omega arith in
      let below = added_below columns tables (at + 48 * r) (255 * r + 1) h b in (
        length_table _ 48,
        λ j. omega (arith, below j),
        added_words columns tables (at + 48 * r) 16 (omega arith)
            ∙ (λ i. e i + word_sum tables (sym k i) 16)
            ∙ sym (ap (word_sum tables at) n ∙ words_split tables at (16 * r) 16),
      )
