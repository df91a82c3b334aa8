-- Laws of the tests and counts on lists. Assumes nothing.
use Rattle.std.proofs.Common.{◌≡◌, refl, sym, ap, ◌∙◌, Bool, true, false, ◌&&◌, ◌||◌, cond, List, [], ◌∷◌, ◌++◌, map, ◌⊎◌, inl, inr}
use Rattle.std.proofs.Common.{ℕ, zero, suc, ◌+◌, ◌-◌, ◌≤◌, ◌<◌, suc-le-suc, le_refl, le_trans, arith, length}
use Rattle.std.proofs.Common.{take, drop, get_or, replicate, length-take, drop_of_length-le, drop-cons, get_or-set_same}
use Rattle.std.proofs.Common.{get_or-set_other, get_or-take, get_or-drop, leb-true}
use Rattle.std.proofs.Common.{ltb-true, ltb-false, leb, ltb}
use Rattle.std.proofs.Math.Bool.{false≢true}
use Rattle.std.proofs.Math.Nat.{le-suc}
use Rattle.std.proofs.Math.ListN.{get_or-eq_default}
use Rattle.std.proofs.Math.Seq.{set_out}
use Rattle.std.proofs.Math.Decide.{ℕ_discrete, dec_lt}
use Rattle.wire.specs.Lists.{all, at_most, EachBelow, bump, join_if, keep}

-- a test passes or fails
pub either : (t : Bool) → (t ≡ true) ⊎ (t ≡ false)
either true = inl refl
either false = inr refl

and_assoc : (a b c : Bool) → ((a && b) && c) ≡ (a && (b && c))
and_assoc true b c = refl
and_assoc false b c = refl

pub and_false : (a : Bool) → (a && false) ≡ false
and_false true = refl
and_false false = refl

join_count : {A : Type 0} (b : Bool) (x : A) (l : List A) → length (join_if b x l) ≡ cond b 1 0 + length l
join_count true x l = omega arith
join_count false x l = omega arith

module _ {A : Type 0} (p : A → Bool) (xs : List A) (d : A) where
  -- the test fails at i
  pub all_stop : (i : ℕ) → i < length xs → p (get_or xs i d) ≡ false → all p xs ≡ all p (drop i xs) → all p xs ≡ false
  all_stop i h e q = q ∙ (rw (drop-cons xs i d) (rw e))

  -- every test passed
  pub all_end : (i : ℕ) → length xs ≤ i → all p xs ≡ all p (drop i xs) → all p xs ≡ true
  all_end i h q = q ∙ ap (λ (l : List A). all p l) (drop_of_length-le xs h)

-- a conjunction's two parts
pub and_left : (a b : Bool) → (a && b) ≡ true → a ≡ true
and_left true b h = refl
and_left false b h = h

pub and_right : (a b : Bool) → (a && b) ≡ true → b ≡ true
and_right true b h = h
and_right false b h = absurd (false≢true h)

pub and_split : (a b : Bool) → (a && b) ≡ true → (a ≡ true) × (b ≡ true)
and_split a b h = (and_left a b h, and_right a b h)

-- a test that one of two makes true
pub or_split : (a b : Bool) → (a || b) ≡ true → (a ≡ true) ⊎ (b ≡ true)
or_split true b h = inl refl
or_split false b h = inr h

-- where each passes the test, so does the one at i
pub all_get : {A : Type 0} (p : A → Bool) (xs : List A) (d : A) (i : ℕ) → i < length xs → all p xs ≡ true → p (get_or xs i d) ≡ true
all_get p [] d i h e = absurd (omega arith)
all_get p (x ∷ xs) d zero h e = and_left (p x) (all p xs) e
all_get p (x ∷ xs) d (suc i) h e = all_get p xs d i (omega arith) (and_right (p x) (all p xs) e)

pub all_append : {A : Type 0} (p : A → Bool) (l m : List A) → all p l ≡ true → all p m ≡ true → all p (l ++ m) ≡ true
all_append p [] m h k = k
all_append p (x ∷ xs) m h k = rw (and_left (p x) (all p xs) h) (all_append p xs m (and_right (p x) (all p xs) h) k)

-- the element at i of what a function makes of each
pub map_at : (f : ℕ → ℕ) (xs : List ℕ) (i : ℕ) → i < length xs → get_or (map f xs) i 0 ≡ f (get_or xs i 0)
map_at f [] i h = absurd (omega arith)
map_at f (x ∷ xs) zero h = refl
map_at f (x ∷ xs) (suc i) h = map_at f xs i (omega arith)

-- where each number is at most m, so is the one at k
pub all_at : (m : ℕ) (xs : List ℕ) (k : ℕ) → all (at_most m) xs ≡ true → get_or xs k 0 ≤ m
all_at m [] k h = omega arith
all_at m (x ∷ xs) zero h = leb-true x m (and_left (leb x m) (all (at_most m) xs) h)
all_at m (x ∷ xs) (suc k) h = all_at m xs k (and_right (leb x m) (all (at_most m) xs) h)

-- one more at i, and the bound one more
pub each_bump : (n : ℕ) (xs : List ℕ) (i : ℕ) → EachBelow n xs → EachBelow (n + 1) (bump xs i)
each_bump n xs i b k = go (ℕ_discrete k i) (dec_lt i (length xs))
  where
    go : Dec (k ≡ i) → Dec (i < length xs) → get_or (bump xs i) k 0 < n + 1
    go (no d) e = rw (get_or-set_other xs i k (get_or xs i 0 + 1) 0 d) (omega (arith, b k))
    go (yes q) (yes h) = rw (q, get_or-set_same xs i (get_or xs i 0 + 1) 0 h) (omega (arith, b i))
    go (yes q) (no h) = rw (set_out xs i (get_or xs i 0 + 1) (omega arith)) (omega (arith, b k))

pub each_append : (n : ℕ) (a b : List ℕ) → EachBelow n a → EachBelow n b → EachBelow n (a ++ b)
each_append n [] b ha hb k = hb k
each_append n (x ∷ a) b ha hb zero = ha 0
each_append n (x ∷ a) b ha hb (suc k) = each_append n a b (λ i. ha (suc i)) hb k

-- zeros are below any bound
pub each_zeros : (b n : ℕ) → 0 < b → EachBelow b (replicate n 0)
each_zeros b zero h k = h
each_zeros b (suc n) h zero = h
each_zeros b (suc n) h (suc k) = each_zeros b n h k

-- ---- the elements that pass a test

module _ {A : Type 0} where
  join_append : (b : Bool) (x : A) (l m : List A) → join_if b x l ++ m ≡ join_if b x (l ++ m)
  join_append true x l m = refl
  join_append false x l m = refl

  pub keep_append : (p : A → Bool) (l m : List A) → keep p (l ++ m) ≡ keep p l ++ keep p m
  unfolding keep
  keep_append p [] m = refl
  keep_append p (x ∷ xs) m = ap (join_if (p x) x) (keep_append p xs m) ∙ sym (join_append (p x) x (keep p xs) (keep p m))

  pub keep_one : (p : A → Bool) (e : A) → keep p (e ∷ []) ≡ join_if (p e) e []
  unfolding keep
  keep_one p e = refl

  join_length : (b : Bool) (x : A) (l : List A) {n : ℕ} → length l ≤ n → length (join_if b x l) ≤ suc n
  join_length true x l h = suc-le-suc h
  join_length false x l h = le_trans h (le-suc _)

  pub length_keep : (p : A → Bool) (l : List A) → length (keep p l) ≤ length l
  unfolding keep
  length_keep p [] = le_refl 0
  length_keep p (x ∷ xs) = join_length (p x) x (keep p xs) (length_keep p xs)

-- ---- choices

-- what holds of either holds of the one that is chosen
pub choice : {A : Type 0} (P : A → Type 0) (b : Bool) (x y : A) → (b ≡ true → P x) → (b ≡ false → P y) → P (cond b x y)
choice P true x y f g = f refl
choice P false x y f g = g refl

-- a test is passed or not
pub decide : {G : Type 0} (b : Bool) → (b ≡ true → G) → (b ≡ false → G) → G
decide true f g = f refl
decide false f g = g refl

-- ---- a part of a list

-- what holds of each number of a list holds of each of a part
pub each_part : (n : ℕ) (xs : List ℕ) (b m : ℕ) → 0 < n → EachBelow n xs → EachBelow n (take m (drop b xs))
each_part n xs b m z h k =
    decide (ltb k m)
    (λ q. let l : k < m = ltb-true k m q in rw (get_or-take m (drop b xs) k 0 l, get_or-drop b xs k 0) (h (b + k)))
    (λ q.
    let l : length (take m (drop b xs)) ≤ k = omega (arith, ltb-false k m q, length-take m (drop b xs)) in
    rw (get_or-eq_default (take m (drop b xs)) 0 l) z)

pub all_part : {A : Type 0} (p : A → Bool) (xs : List A) (b m : ℕ) → all p xs ≡ true → all p (take m (drop b xs)) ≡ true
all_part p xs zero zero h = refl
all_part p [] zero (suc m) h = refl
all_part p (x ∷ xs) zero (suc m) h = rw (and_left (p x) (all p xs) h) (all_part p xs zero m (and_right (p x) (all p xs) h))
all_part p [] (suc b) zero h = refl
all_part p [] (suc b) (suc m) h = refl
all_part p (x ∷ xs) (suc b) m h = all_part p xs b m (and_right (p x) (all p xs) h)
