-- Laws of lists made of numbered or equal pieces, or filled up to a length. Assumes nothing.
use Rattle.std.proofs.Common.{◌≡◌, refl, sym, ap, ap₂, ◌∙◌, Bool, true, false, ◌&&◌, List, [], ◌∷◌, ◌++◌, append_assoc, append-nil}
use Rattle.std.proofs.Common.{ℕ, zero, suc, ◌+◌, ◌-◌, ◌*◌, ◌≤◌, ◌<◌, arith, eq-or-lt_of_le, add-one, ⊎_elim, length, take, get_or}
use Rattle.std.proofs.Common.{set, replicate, length-append, length-set, take-suc, take-suc-set, take_all, length-take-le}
use Rattle.std.proofs.Common.{get_or-append-add, ext_get_or, le-leb}
use Rattle.std.proofs.Math.Bool.{and-true, and_assoc, false≢true}
use Rattle.std.proofs.Math.ListN.{length-replicate, get_or-append}
use Rattle.std.proofs.Math.Seq.{get_or_at, set-append_seam, set-append_left, append_snoc}
use Rattle.wire.specs.Bits.{bit_of}
use Rattle.wire.specs.Bytes.{one, zeros, total, words, be32}
use Rattle.wire.specs.Lists.{all, at_most}
use Rattle.wire.proofs.Bytes.{total_append, zeros_more}
use Rattle.wire.proofs.Lists.{and_split, all_append, decide}
use Rattle.wire.specs.Pieces.{runs, table, each, count_of, filled_up, padded}

-- ---- runs

module _ (piece : ℕ → List ℕ) where
  pub runs_append : (xs ys : List ℕ) → runs piece (xs ++ ys) ≡ runs piece xs ++ runs piece ys
  unfolding runs
  runs_append [] ys = refl
  runs_append (x ∷ xs) ys =
      ap (λ (l : List ℕ). piece x ++ l) (runs_append xs ys) ∙ sym (append_assoc (piece x) (runs piece xs) (runs piece ys))

  pub runs_one : (x : ℕ) → runs piece (one x) ≡ piece x
  unfolding runs
  runs_one x = append-nil (piece x)

  -- one piece more
  pub runs_take : (xs : List ℕ) (i : ℕ) → i < length xs → runs piece (take (i + 1) xs) ≡ runs piece (take i xs) ++ piece (get_or xs i 0)
  runs_take xs i h =
      rw (add-one, take-suc xs i 0)
      (runs_append (take i xs) (one (get_or xs i 0)) ∙ ap (λ (l : List ℕ). runs piece (take i xs) ++ l) (runs_one (get_or xs i 0)))

  module _ (k : ℕ) (size : (x : ℕ) → length (piece x) ≡ k) where
    pub length_runs : (xs : List ℕ) → length (runs piece xs) ≡ k * length xs
    unfolding runs
    length_runs [] = omega arith
    length_runs (x ∷ xs) = length-append (piece x) (runs piece xs) ∙ omega (arith, size x, length_runs xs)

    pub length_runs_take : (xs : List ℕ) (i : ℕ) → i ≤ length xs → length (runs piece (take i xs)) ≡ k * i
    length_runs_take xs i h = length_runs (take i xs) ∙ ap (λ (n : ℕ). k * n) (length-take-le i xs h)

    -- byte j of piece i
    pub runs_at : (xs : List ℕ) (i j : ℕ) → i < length xs → j < k → get_or (runs piece xs) (k * i + j) 0 ≡ get_or (piece (get_or xs i 0)) j 0
    unfolding runs
    runs_at [] i j h l = absurd (omega arith)
    runs_at (x ∷ xs) zero j h l =
        let e : k * 0 + j ≡ j = omega arith in
        rw e (get_or-append (piece x) (runs piece xs) 0 j (omega (arith, size x)))
    runs_at (x ∷ xs) (suc i) j h l =
        let e : k * suc i + j ≡ length (piece x) + (k * i + j) = omega (arith, size x) in
        rw e (get_or-append-add (piece x) (runs piece xs) (k * i + j) 0 ∙ runs_at xs i j (omega arith) l)

-- words are runs of four bytes
pub words_runs : (ws : List ℕ) → words ws ≡ runs be32 ws
unfolding words runs
words_runs [] = refl
words_runs (w ∷ ws) = ap (λ (l : List ℕ). be32 w ++ l) (words_runs ws)

-- the words of two lists
pub words_append : (xs ys : List ℕ) → words xs ++ words ys ≡ words (xs ++ ys)
words_append xs ys =
    ap₂ (λ (a b : List ℕ). a ++ b) (words_runs xs) (words_runs ys)
    ∙ sym (words_runs (xs ++ ys) ∙ runs_append be32 xs ys)

-- ---- tables

module _ (f : ℕ → ℕ) where
  pub table_none : [] ≡ table 0 f
  unfolding table
  table_none = refl

  pub table_more : (n : ℕ) → table (n + 1) f ≡ table n f ++ one (f n)
  unfolding table
  table_more n = rw add-one

  -- a loop that fills a list: one turn, its end
  pub table_turn : {v : ℕ} (xs : List ℕ) (i : ℕ) → i < length xs → take i xs ≡ table i f → v ≡ f i
      → take (i + 1) (set xs i v) ≡ table (i + 1) f
  table_turn {v} xs i h e q =
      ap (λ (n : ℕ). take n (set xs i v)) (add-one i) ∙ take-suc-set xs i v h ∙ (λ k. e k ++ one (q k)) ∙ sym (table_more i)

  pub table_end : (xs : List ℕ) (i n : ℕ) → i ≤ n → n ≤ i → length xs ≡ n → take i xs ≡ table i f → xs ≡ table n f
  table_end xs i n h g l e =
      let k : i ≡ n = omega arith in
      sym (take_all i xs (omega arith)) ∙ e ∙ ap (λ (m : ℕ). table m f) k

  pub length_table : (n : ℕ) → length (table n f) ≡ n
  unfolding table
  length_table zero = refl
  length_table (suc n) = length-append (table n f) (one (f n)) ∙ omega (arith, length_table n)

  table_at_by : (n i : ℕ) → (i < n → get_or (table n f) i 0 ≡ f i) → i ≤ n → get_or (table (suc n) f) i 0 ≡ f i
  unfolding table
  table_at_by n i ih h =
      ⊎_elim (λ (e : i ≡ n). rw e (get_or_at (table n f) (f n) [] 0 n (length_table n)))
      (λ (l : i < n). get_or-append (table n f) (one (f n)) 0 i (omega (arith, length_table n)) ∙ ih l) (eq-or-lt_of_le h)

  pub table_at : (n i : ℕ) → i < n → get_or (table n f) i 0 ≡ f i
  table_at zero i h = absurd (omega arith)
  table_at (suc n) i h = table_at_by n i (λ l. table_at n i l) (omega arith)

  -- a list is the table of its elements
  pub table_is : (n : ℕ) (xs : List ℕ) → length xs ≡ n → ((i : ℕ) → i < n → f i ≡ get_or xs i 0) → table n f ≡ xs
  table_is n xs l same =
      ext_get_or 0 (table n f) xs (length_table n ∙ sym l) (λ i h.
      let m : i < n = omega (arith, length_table n) in table_at n i m ∙ same i m)

  pub total_more : (n : ℕ) → total (table (n + 1) f) ≡ total (table n f) + f n
  unfolding total
  total_more n = ap total (table_more n) ∙ total_append (table n f) (one (f n)) ∙ omega arith

-- tables that agree
pub same_table : (n : ℕ) (f g : ℕ → ℕ) → ((i : ℕ) → i < n → f i ≡ g i) → table n f ≡ table n g
same_table n f g h = table_is f n (table n g) (length_table g n) (λ i l. h i l ∙ sym (table_at g n i l))

pub table_zeros : (n : ℕ) → table n (λ i. 0) ≡ zeros n
unfolding table
table_zeros zero = refl
table_zeros (suc n) = ap (λ (l : List ℕ). l ++ 0 ∷ []) (table_zeros n) ∙ zeros_more n ∙ ap zeros (add-one n)

-- each number of a table is at most m, if each of its values is
pub table_most : (n m : ℕ) (f : ℕ → ℕ) → ((i : ℕ) → f i ≤ m) → all (at_most m) (table n f) ≡ true
unfolding table
table_most zero m f h = refl
table_most (suc n) m f h = all_append (at_most m) (table n f) (f n ∷ []) (table_most n m f h) (rw (le-leb (f n) m (h n)))

-- ---- tests

module _ (p : ℕ → Bool) where
  -- a loop that tests them all: its start, one turn, its end
  pub each_start : true ≡ each 0 p
  unfolding each
  each_start = refl

  pub each_turn : {good r : Bool} (i : ℕ) → good ≡ each i p → r ≡ p i → (good && r) ≡ each (i + 1) p
  unfolding each
  each_turn i e q = rw add-one (λ k. e k && q k)

  pub each_end : {good : Bool} (i n : ℕ) → i ≤ n → n ≤ i → good ≡ each i p → good ≡ each n p
  each_end i n h g e = let k : i ≡ n = omega arith in rw k at e

  each_at_by : (n i : ℕ) → (i < n → each n p ≡ true → p i ≡ true) → i ≤ n → each n p ≡ true → p n ≡ true → p i ≡ true
  each_at_by n i ih h e q = ⊎_elim (λ (k : i ≡ n). rw k q) (λ (l : i < n). ih l e) (eq-or-lt_of_le h)

  pub each_at : (n i : ℕ) → i < n → each n p ≡ true → p i ≡ true
  unfolding each
  each_at zero i h e = absurd (omega arith)
  each_at (suc n) i h e =
      let t = and_split (each n p) (p n) e in each_at_by n i (λ l q. each_at n i l q) (omega arith) t.0 t.1

  pub each_all : (n : ℕ) → ((i : ℕ) → i < n → p i ≡ true) → each n p ≡ true
  unfolding each
  each_all zero h = refl
  each_all (suc n) h = rw (each_all n (λ i l. h i (omega arith)), h n (omega arith))

  -- where one fails not all pass, and the other way round
  pub each_fails : (n i : ℕ) → i < n → p i ≡ false → each n p ≡ false
  each_fails n i l f = decide (each n p) (λ q. absurd (false≢true (sym f ∙ each_at n i l q))) (λ q. q)

  pub each_some : (n : ℕ) → each n p ≡ false → (i : ℕ) × (i < n) × (p i ≡ false)
  unfolding each
  each_some zero e = absurd (false≢true (sym e))
  each_some (suc n) e =
      decide (p n)
      (λ q.
      let r = each_some n (sym (ap (λ (b : Bool). each n p && b) q ∙ and-true (each n p)) ∙ e) in
      (r.0, omega (arith, r.1), r.2))
      (λ q. (n, omega arith, q))

pub each_same : (n : ℕ) (p q : ℕ → Bool) → ((i : ℕ) → i < n → p i ≡ q i) → each n p ≡ each n q
unfolding each
each_same zero p q h = refl
each_same (suc n) p q h = λ k. each_same n p q (λ i l. h i (omega arith)) k && h n (omega arith) k

-- the first a and the b behind them
pub each_join : (a b : ℕ) (p : ℕ → Bool) → each (a + b) p ≡ (each a p && each b (λ j. p (a + j)))
unfolding each
each_join a zero p = let e : a + 0 ≡ a = omega arith in ap (λ (n : ℕ). each n p) e ∙ sym (and-true (each a p))
each_join a (suc b) p =
    let e : a + suc b ≡ suc (a + b) = omega arith in
    ap (λ (n : ℕ). each n p) e ∙ ap (λ (t : Bool). t && p (a + b)) (each_join a b p) ∙ and_assoc (each a p) (each b (λ j. p (a + j))) (p (a + b))

-- ---- how many pass a test

pub count_same : (n : ℕ) (p q : ℕ → Bool) → ((i : ℕ) → i < n → p i ≡ q i) → count_of n p ≡ count_of n q
unfolding count_of
count_same zero p q h = refl
count_same (suc n) p q h = λ k. count_same n p q (λ i l. h i (omega arith)) k + bit_of (h n (omega arith) k)

-- one turn of a loop that counts
pub count_turn : (p : ℕ → Bool) {n r : ℕ} (i : ℕ) → n ≡ count_of i p → r ≡ bit_of (p i) → n + r ≡ count_of (i + 1) p
unfolding count_of
count_turn p i e q = rw add-one (λ k. e k + q k)

pub count_none : (n : ℕ) → count_of n (λ i. false) ≡ 0
unfolding count_of
count_none zero = refl
count_none (suc n) = rw (count_none n)

-- ---- filled up

module _ {A : Type 0} (n : ℕ) (d : A) where
  -- one more at the end of what is filled up
  pub filled_set : (x : A) (l : List A) → length l < n → set (filled_up n d l) (length l) x ≡ filled_up n d (l ++ x ∷ [])
  filled_set x l h =
      let e₁ : n - length l ≡ suc (n - suc (length l)) = omega arith in
      let e₂ : n - (length l + 1) ≡ n - suc (length l) = omega arith in
      rw (length-append, e₂, e₁, set-append_seam, append_snoc)

module _ (n : ℕ) where
  pub padded_fill : (l : List ℕ) (x : ℕ) → length l < n → set (padded n l) (length l) x ≡ padded n (l ++ x ∷ [])
  unfolding padded
  padded_fill l x h = filled_set n 0 x l h

  pub padded_set : (l : List ℕ) (i x : ℕ) → i < length l → set (padded n l) i x ≡ padded n (set l i x)
  unfolding padded
  padded_set l i x h = rw (set-append_left l (replicate (n - length l) 0) i x h, length-set)

  -- zeros to the end make a list padded
  pub padded_is : (k : ℕ) (l : List ℕ) → length l ≡ k → padded n l ≡ l ++ zeros (n - k)
  unfolding padded
  padded_is k l e = ap (λ (m : ℕ). l ++ zeros (n - m)) e

  pub length_padded : (l : List ℕ) → length l ≤ n → length (padded n l) ≡ n
  unfolding padded
  length_padded l h = length-append l (zeros (n - length l)) ∙ omega (arith, length-replicate {A = ℕ} (n - length l) 0)
