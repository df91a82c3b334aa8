-- Laws of runs of bytes and of the numbers in them. Assumes nothing.
use Rattle.std.proofs.Common.{◌≡◌, refl, sym, ap, ◌∙◌, List, [], ◌∷◌, ◌++◌, append_assoc, append-nil, ℕ, zero, suc, ◌+◌, ◌-◌, ◌*◌}
use Rattle.std.proofs.Common.{◌/◌, ◌%◌, ◌≤◌, ◌<◌, arith, add-one, length, take, drop, get_or, length-append, length-take}
use Rattle.std.proofs.Common.{length-drop, drop_of_length-le, length-take-le, take_at, drop_at, drop-cons, take-suc, drop-drop}
use Rattle.std.proofs.Common.{get_or-append-add, get_or-take, get_or-drop}
use Rattle.std.proofs.Math.ListN.{replicate-append-replicate, get_or-append}
use Rattle.std.proofs.Math.Seq.{sets, sets-eq, paste-zero}
use borrow.Rule.Slice.PartMut.{put_mid, Post-is}
use Rattle.std.specs.Simd.{first_chunks}
use Rattle.std.proofs.lemmas.List.{take-append-drop}
use Rattle.wire.specs.Bytes.{put, total, words, be32, zeros}
pub use Rattle.wire.specs.NumberLaws.{put_inside, value16, value32}

-- ---- a run put into a list

-- stores at straight-line indices are a `put`
pub put_sets : (vs xs : List ℕ) (at : ℕ) → at + length vs ≤ length xs → sets xs at vs ≡ put xs at vs
unfolding put
put_sets vs xs at h = sets-eq vs xs at h

pub length_put : (vs xs : List ℕ) (at : ℕ) → at + length vs ≤ length xs → length (put xs at vs) ≡ length xs
unfolding put
length_put vs xs at h = simp (length-append, length-take, length-drop) (omega arith)

-- what stands before the end of what was put
pub take_put : (vs xs : List ℕ) (at m : ℕ) → at + length vs ≡ m → m ≤ length xs → take m (put xs at vs) ≡ take at xs ++ vs
unfolding put
take_put vs xs at m e h =
    take_at (take at xs ++ vs) (drop (at + length vs) xs) m (simp (length-append, length-take) (omega arith))

-- an element outside the run that is put
pub put_before : (vs xs : List ℕ) (at k : ℕ) → at ≤ length xs → k < at → get_or (put xs at vs) k 0 ≡ get_or xs k 0
unfolding put
put_before vs xs at k h l =
    let T : List ℕ = take at xs in
    let D : List ℕ = drop (at + length vs) xs in
    let lt : length T ≡ at = length-take-le at xs h in
    get_or-append (T ++ vs) D 0 k (simp (length-append, lt) (omega arith))
    ∙ get_or-append T vs 0 k (omega arith)
    ∙ get_or-take at xs k 0 l

pub put_behind : (vs xs : List ℕ) (at k : ℕ) → at ≤ length xs → at + length vs ≤ k → get_or (put xs at vs) k 0 ≡ get_or xs k 0
unfolding put
put_behind vs xs at k h l =
    let T : List ℕ = take at xs in
    let D : List ℕ = drop (at + length vs) xs in
    let lt : length T ≡ at = length-take-le at xs h in
    let n : ℕ = k - (at + length vs) in
    let e : k ≡ length (T ++ vs) + n = simp (length-append, lt) (omega arith) in
    ap (λ (m : ℕ). get_or ((T ++ vs) ++ D) m 0) e
    ∙ get_or-append-add (T ++ vs) D n 0
    ∙ get_or-drop (at + length vs) xs n 0
    ∙ ap (λ (m : ℕ). get_or xs m 0) (omega arith)

-- two runs, the second where the first ends, are one run
pub put_put : (xs : List ℕ) (at : ℕ) (a b : List ℕ) (n : ℕ) → at + length a ≡ n → n ≤ length xs
    → put (put xs at a) n b ≡ put xs at (a ++ b)
unfolding put
put_put xs at a b n e h =
    let p : List ℕ = take at xs ++ a in
    let lp : length p ≡ n = simp (length-append, length-take) (omega arith) in
    let t : take n (p ++ drop (at + length a) xs) ≡ p = take_at p (drop (at + length a) xs) n lp in
    let el : at + length a + length b ≡ at + length (a ++ b) = simp length-append (omega arith) in
    let d : drop (n + length b) (p ++ drop (at + length a) xs) ≡ drop (at + length (a ++ b)) xs =
    sym (drop-drop (length b) n (p ++ drop (at + length a) xs))
    ∙ ap (drop (length b)) (drop_at p (drop (at + length a) xs) n lp)
    ∙ drop-drop (length b) (at + length a) xs
    ∙ ap (λ (k : ℕ). drop k xs) el in
    (λ k. t k ++ b ++ d k) ∙ ap (λ (l : List ℕ). l ++ drop (at + length (a ++ b)) xs) (append_assoc (take at xs) a b)

-- a run that was put, and then one put where it ends
pub then : {x₁ x₂ : List ℕ} (xs : List ℕ) (at : ℕ) (a b : List ℕ) (n : ℕ) → x₁ ≡ put xs at a → x₂ ≡ put x₁ n b → at + length a ≡ n
    → n ≤ length xs → x₂ ≡ put xs at (a ++ b)
then {x₁} {x₂} xs at a b n e₁ e₂ l h = e₂ ∙ ap (λ (x : List ℕ). put x n b) e₁ ∙ put_put xs at a b n l h

-- nothing put
pub put_nil : (xs : List ℕ) (at : ℕ) → xs ≡ put xs at []
unfolding put
put_nil xs at = paste-zero xs at []

-- a run as long as the list is all of it
pub put_all : (xs vs : List ℕ) → length vs ≡ length xs → put xs 0 vs ≡ vs
unfolding put
put_all xs vs h =
    let k : length xs ≤ 0 + length vs = omega arith in
    ap (λ (l : List ℕ). vs ++ l) (drop_of_length-le xs k) ∙ append-nil vs

-- what the borrow checker says of a slice whose part `[a..e]` was lent and is back, as a `put`
pub put_mid_lem : (a e : ℕ) (xs ys : List ℕ) → a ≤ e → length ys ≡ e - a → put_mid a (e - a) xs ys ≡ put xs a ys
unfolding put
put_mid_lem a e xs ys h l =
    let k : e ≡ a + length ys = omega arith in
    ap (λ (r : List ℕ). take a xs ++ (ys ++ r)) (Post-is a e xs h ∙ ap (λ (n : ℕ). drop n xs) k)
    ∙ sym (append_assoc (take a xs) ys (drop (a + length ys) xs))

pub length_part : {A : Type 0} (s : List A) (b n : ℕ) → b + n ≤ length s → length (take n (drop b s)) ≡ n
length_part s b n h = simp (length-take, length-drop) (omega arith)

-- one zero more
pub zeros_more : (n : ℕ) → zeros n ++ (0 ∷ []) ≡ zeros (n + 1)
zeros_more n = replicate-append-replicate n 1 0

-- ---- words

pub words_snoc : (ws : List ℕ) (w : ℕ) → words (ws ++ (w ∷ [])) ≡ words ws ++ be32 w
unfolding words
words_snoc [] w = refl
words_snoc (x ∷ ws) w = ap (λ (l : List ℕ). be32 x ++ l) (words_snoc ws w)

pub length_words : (ws : List ℕ) → length (words ws) ≡ 4 * length ws
unfolding words
length_words [] = refl
length_words (x ∷ ws) = let h : length (words ws) ≡ 4 * length ws = length_words ws in omega arith

-- one word more
pub words_take : (ws : List ℕ) (i : ℕ) → i < length ws → words (take (i + 1) ws) ≡ words (take i ws) ++ be32 (get_or ws i 0)
words_take ws i h = rw (add-one, take-suc ws i 0) (words_snoc (take i ws) (get_or ws i 0))

pub length_words_take : (ws : List ℕ) (i : ℕ) → i ≤ length ws → length (words (take i ws)) ≡ 4 * i
length_words_take ws i h = length_words (take i ws) ∙ ap (λ (n : ℕ). 4 * n) (length-take-le i ws h)

-- ---- sums

-- the sum of what is left, by one element
pub total_drop : (p : List ℕ) (i : ℕ) → i < length p → total (drop i p) ≡ get_or p i 0 + total (drop (i + 1) p)
unfolding total
total_drop p i h = rw (add-one, drop-cons p i 0)

pub total_end : (p : List ℕ) (i : ℕ) → length p ≤ i → total (drop i p) ≡ 0
unfolding total
total_end p i h = ap total (drop_of_length-le p h)

pub total_append : (xs ys : List ℕ) → total (xs ++ ys) ≡ total xs + total ys
unfolding total
total_append [] ys = omega arith
total_append (x ∷ xs) ys = omega (arith, total_append xs ys)

-- ---- ---- sums by chunks

pub chunk_at : (n : ℕ) (k i : ℕ) (xs : List ℕ) (d : List ℕ) → i < k → get_or (first_chunks n k xs) i d ≡ take n (drop (n * i) xs)
chunk_at n zero i xs d h = absurd (omega (arith, h))
chunk_at n (suc k) zero xs d h = let e : n * 0 ≡ 0 = omega arith in rw e refl
chunk_at n (suc k) (suc i) xs d h =
    let e : n + n * i ≡ n * suc i = grind arith in
    chunk_at n k i (drop n xs) d (omega (arith, h)) ∙ ap (take n) (drop-drop (n * i) n xs ∙ ap (λ (m : ℕ). drop m xs) e)

-- byte j of chunk i of n bytes each is a byte of the list that was cut
pub chunk_get : (n k i : ℕ) (xs : List ℕ) (cs : List (List ℕ)) → cs ≡ first_chunks n k xs → i < k → (j p : ℕ) → j < n → n * i + j ≡ p
    → get_or (get_or cs i []) j 0 ≡ get_or xs p 0
chunk_get n k i xs cs e h j p l q =
    ap (λ (c : List (List ℕ)). get_or (get_or c i []) j 0) e
    ∙ ap (λ (c : List ℕ). get_or c j 0) (chunk_at n k i xs [] h)
    ∙ get_or-take n (drop (n * i) xs) j 0 l
    ∙ get_or-drop (n * i) xs j 0
    ∙ ap (λ (m : ℕ). get_or xs m 0) q

-- the same where a part of the list, so long from `at` on, was cut
pub chunk_byte : (n at long k i : ℕ) (xs : List ℕ) (cs : List (List ℕ)) → cs ≡ first_chunks n k (take long (drop at xs)) → i < k
    → (j p : ℕ) → j < n → n * i + j < long → at + (n * i + j) ≡ p → get_or (get_or cs i []) j 0 ≡ get_or xs p 0
chunk_byte n at long k i xs cs e h j p l b q =
    chunk_get n k i (take long (drop at xs)) cs e h j (n * i + j) l refl
    ∙ get_or-take long (drop at xs) (n * i + j) 0 b
    ∙ get_or-drop at xs (n * i + j) 0
    ∙ ap (λ (m : ℕ). get_or xs m 0) q

-- the sum of what is left, by the next chunk
pub total_chunk : (n k i : ℕ) (xs : List ℕ) (cs : List (List ℕ)) → cs ≡ first_chunks n k xs → i < k
    → total (drop (n * i) xs) ≡ total (get_or cs i []) + total (drop (n * (i + 1)) xs)
total_chunk n k i xs cs e h =
    let ys : List ℕ = drop (n * i) xs in
    let c : take n ys ≡ get_or cs i [] = sym (ap (λ (l : List (List ℕ)). get_or l i []) e ∙ chunk_at n k i xs [] h) in
    let m : n * i + n ≡ n * (i + 1) = grind arith in
    let d : drop n ys ≡ drop (n * (i + 1)) xs = drop-drop n (n * i) xs ∙ ap (λ (m : ℕ). drop m xs) m in
    ap total (sym (take-append-drop n ys)) ∙ total_append (take n ys) (drop n ys) ∙ (λ j. total (c j) + total (d j))

-- ---- a number's bytes hold the number

pub value24 : (v : ℕ) → 65536 * (v / 65536) + 256 * (v / 256 % 256) + v % 256 ≡ v
value24 v = omega arith
