-- The sample rule goes on from what it left, and placing one record more agrees with it, from any start. Assumes nothing.
use Rattle.std.proofs.Common.{◌≡◌, refl, sym, ap, ◌∙◌, Bool, true, false, ◌&&◌, not, cond, List, [], ◌∷◌, ◌++◌, map, append_assoc, ℕ}
use Rattle.std.proofs.Common.{zero, suc, ◌+◌, ◌-◌, ◌≤◌, ◌<◌, min, le_of_lt, zero-add, add-one, arith, ltb-true, ltb-false, ltb}
use Rattle.std.proofs.Common.{length, set, take, drop, replicate, length-take, length-append, length-drop, drop_of_length-le}
use Rattle.std.proofs.Common.{length-take-le, take_all, take_at, drop_at, drop-drop, count_by}
use Rattle.std.proofs.Math.Nat.{sub-zero, zero-sub, suc-sub-suc}
use Rattle.std.proofs.Math.ListN.{length-map}
use Rattle.std.proofs.Math.Seq.{take-nil, take-append-le, drop-append-le, append_snoc, set_split, paste-zero}
use Rattle.std.specs.List.{filter}
use Rattle.std.proofs.lemmas.List.Sums.{length-filter}
use Rattle.wire.specs.Lists.{join_if, keep}
use Rattle.wire.specs.Pieces.{padded}
use Rattle.wire.proofs.Lists.{keep_append, keep_one, length_keep}
use Rattle.wire.proofs.Pieces.{padded_fill, padded_set}
use Rattle.samples.specs.declared.slots.SlotUse.{SlotUse}
use Rattle.samples.specs.Samples.{Place, free, replace, none, place_of, slots_after, use_after, filled}
use Rattle.samples.specs.Samples.{first_from, replacers_from, replaced_from, sampled_from, slots_from, use_from}
use Rattle.samples.specs.Samples.{replaced_by, sampled, slots_of, use_of, replaced_events, dropped_events}

by_size : {P : Type 0} (a b : ℕ) → (a ≤ b → P) → (b ≤ a → P) → P
by_size {P} a b f g = go (ltb a b) refl
  where
    go : (t : Bool) → ltb a b ≡ t → P
    go true e = f (le_of_lt (ltb-true a b e))
    go false e = g (ltb-false a b e)

-- ---- lists

module _ {A : Type 0} where
  take_append : (n : ℕ) (xs ys : List A) → take n (xs ++ ys) ≡ take n xs ++ take (n - length xs) ys
  take_append zero xs ys = rw (zero-sub (length xs))
  take_append (suc n) [] ys = rw sub-zero
  take_append (suc n) (x ∷ xs) ys = rw suc-sub-suc (ap (λ (r : List A). x ∷ r) (take_append n xs ys))

  -- those that pass and those that do not are all
  keep_both : (p : A → Bool) (l : List A) → length (keep p l) + length (keep (λ x. not (p x)) l) ≡ length l
  unfolding keep
  keep_both p [] = refl
  keep_both p (x ∷ xs) = both (p x) (keep p xs) (keep (λ x. not (p x)) xs) (keep_both p xs)
    where
      both : (b : Bool) (l m : List A) → length l + length m ≡ length xs
          → length (join_if b x l) + length (join_if (not b) x m) ≡ suc (length xs)
      both true l m h = omega (arith, h)
      both false l m h = omega (arith, h)

  -- b with hi in place of what it has from index r on
  abbrev over : ℕ → List A → List A → List A
  over r b hi = take r b ++ hi ++ drop (r + length hi) b

  over_one : (r : ℕ) (b : List A) (e : A) → r < length b → over r b (e ∷ []) ≡ set b r e
  over_one r b e h = append_snoc (take r b) e (drop (r + 1) b) ∙ rw add-one (sym (set_split b r e h))

  over_over : (r : ℕ) (b hi more : List A) → r ≤ length b → over (r + length hi) (over r b hi) more ≡ over r b (hi ++ more)
  over_over r b hi more h =
      let n : ℕ = r + length hi in
      let rest : List A = drop n b in
      let e : length (take r b ++ hi) ≡ n = rw (length-append, length-take-le r b h) in
      let k : r + length (hi ++ more) ≡ n + length more = rw length-append (omega arith) in
      let d = ap (drop (length more)) (drop_at (take r b ++ hi) rest n e) ∙ drop-drop (length more) n b in
      rw (k, take_at (take r b ++ hi) rest n e, ← append_assoc (take r b) hi more)
      (ap (λ (x : List A). take r b ++ hi ++ more ++ x) (sym (drop-drop (length more) n (over r b hi)) ∙ d))

module _ {A B : Type 0} (f : A → B) where
  map_set : (l : List A) (i : ℕ) (a : A) → map f (set l i a) ≡ set (map f l) i (f a)
  map_set [] i a = refl
  map_set (x ∷ xs) zero a = refl
  map_set (x ∷ xs) (suc i) a = ap (λ (r : List B). f x ∷ r) (map_set xs i a)

  pub map_append : (l m : List A) → map f (l ++ m) ≡ map f l ++ map f m
  map_append [] m = refl
  map_append (x ∷ xs) m = ap (λ (r : List B). f x ∷ r) (map_append xs m)

-- ---- the rule

module _ {A : Type 0} (p : A → Bool) (N lim : ℕ) where
  -- up to N are all kept
  module _ (s : List A) (r : ℕ) (l : List A) (h : length (s ++ l) ≤ N) where
    none_replace : replacers_from p N lim s r l ≡ []
    unfolding replacers_from keep
    none_replace = rw (drop_of_length-le (s ++ l) h) (take-nil (lim - r))

    pub replaced_few_from : replaced_from p N lim s r l ≡ r
    unfolding replaced_from
    replaced_few_from = rw none_replace (omega arith)

    pub sampled_few_from : sampled_from p N lim s r l ≡ s ++ l
    unfolding sampled_from replaced_from
    sampled_few_from = rw (none_replace, take_all N (s ++ l) h) (sym (paste-zero (s ++ l) r []))

  module _ (q : lim ≤ N) (s : List A) (r : ℕ) (h : r ≤ N) where
    -- "filled slots": the lesser of N and the eligible events
    pub length_sampled_from : (l : List A) → length (sampled_from p N lim s r l) ≡ min N (length (s ++ l))
    unfolding sampled_from replaced_from replacers_from
    length_sampled_from l =
        let k = rw length-drop at (length_keep p (drop N (s ++ l))) in
        simp (length-append, length-take, length-drop) (omega (arith, length-append s l))

    pub replaced_most_from : (l : List A) → replaced_from p N lim s r l ≤ N
    unfolding replaced_from replacers_from
    replaced_most_from l = rw length-take (omega arith)

  -- going on: the rule over l ++ m is the rule over m from what l left
  module _ (q : lim ≤ N) (s : List A) (r : ℕ) (h : r ≤ N) (l m : List A) where
    abbrev left : List A
    left = sampled_from p N lim s r l

    abbrev replaced : ℕ
    replaced = replaced_from p N lim s r l

    -- while there are N at most
    module _ (k : length (s ++ l) ≤ N) where
      few_sampled : sampled_from p N lim s r (l ++ m) ≡ sampled_from p N lim left replaced m
      unfolding sampled_from replaced_from replacers_from
      few_sampled = rw (sampled_few_from s r l k, replaced_few_from s r l k, append_assoc s l m)

      few_replaced : replaced_from p N lim s r (l ++ m) ≡ replaced_from p N lim left replaced m
      unfolding replaced_from replacers_from
      few_replaced = rw (sampled_few_from s r l k, replaced_few_from s r l k, append_assoc s l m)

    -- from N on
    module _ (k : N ≤ length (s ++ l)) where
      full_left : length left ≡ N
      full_left = length_sampled_from q s r h l ∙ omega arith

      full_first : first_from p N lim s (l ++ m) ≡ first_from p N lim s l
      full_first = rw (← append_assoc s l m, take-append-le N (s ++ l) m k)

      full_replacers : replacers_from p N lim s r (l ++ m) ≡ replacers_from p N lim s r l ++ replacers_from p N lim left replaced m
      unfolding replacers_from replaced_from
      full_replacers =
          let x : List A = keep p (drop N (s ++ l)) in
          let e : lim - r - length x ≡ lim - (r + length (take (lim - r) x)) = rw length-take (omega arith) in
          rw (← append_assoc s l m, drop-append-le N (s ++ l) m k, keep_append, drop_at left m N full_left, take_append, e)

      full_replaced : replaced_from p N lim s r (l ++ m) ≡ replaced_from p N lim left replaced m
      unfolding replaced_from
      full_replaced = rw (full_replacers, length-append) (omega arith)

      full_sampled : sampled_from p N lim s r (l ++ m) ≡ sampled_from p N lim left replaced m
      unfolding sampled_from replaced_from
      full_sampled =
          let b : List A = first_from p N lim s l in
          let w : r ≤ length b = rw length-take (omega arith) in
          rw (full_first, full_replacers, take_at left m N full_left)
          (sym (over_over r b (replacers_from p N lim s r l) (replacers_from p N lim left replaced m) w))

    pub sampled_on : sampled_from p N lim s r (l ++ m) ≡ sampled_from p N lim left replaced m
    sampled_on = by_size (length (s ++ l)) N few_sampled full_sampled

    pub replaced_on : replaced_from p N lim s r (l ++ m) ≡ replaced_from p N lim left replaced m
    replaced_on = by_size (length (s ++ l)) N few_replaced full_replaced

  -- from empty slots
  pub replaced_few : (l : List A) → length l ≤ N → replaced_by p N lim l ≡ 0
  replaced_few l h = replaced_few_from [] 0 l h

  pub sampled_few : (l : List A) → length l ≤ N → sampled p N lim l ≡ l
  sampled_few l h = sampled_few_from [] 0 l h

  pub length_sampled : (l : List A) → lim ≤ N → length (sampled p N lim l) ≡ min N (length l)
  length_sampled l q = length_sampled_from q [] 0 (omega arith) l

  pub replaced_is : (l : List A) → replaced_by p N lim l ≡ min lim (length (keep p (drop N l)))
  unfolding replaced_from replacers_from
  replaced_is l = rw (sub-zero, length-take, zero-add)

  -- the first N fill the slots; of the others so many are replaced, and the rest dropped
  pub sum_of : (l : List A) → length l ≡ min N (length l) + replaced_events p N lim l + dropped_events p N lim l
  unfolding replaced_events dropped_events
  sum_of l =
      let later = drop N l in
      omega (arith, length-drop N l, keep_both p later, length-drop lim (keep p later))

  pub sampled_is : (l : List A) → sampled p N lim l ≡ take lim (keep p (drop N l)) ++ drop (replaced_by p N lim l) (take N l)
  unfolding sampled_from replacers_from
  sampled_is l = rw sub-zero

-- ---- the slots and their use

-- a record that goes to this place makes of these slots and their use those
abbrev pub Makes : Place → List ℕ → SlotUse → (rec : ℕ) → List ℕ → SlotUse → Type 0
Makes w slots u rec slots₁ u₁ = (slots_after w slots u rec ≡ slots₁) × (use_after w u ≡ u₁)

module _ {A : Type 0} (p : A → Bool) (rec : A → ℕ) (N lim : ℕ) (q : lim ≤ N) where
  module _ (s : List A) (r : ℕ) (h : r ≤ N) (l m : List A) where
    pub slots_on : slots_from p rec N lim s r (l ++ m) ≡ slots_from p rec N lim (sampled_from p N lim s r l) (replaced_from p N lim s r l) m
    slots_on = ap (λ (x : List A). padded N (map rec x)) (sampled_on p N lim q s r h l m)

    pub use_on : use_from p rec N lim s r (l ++ m) ≡ use_from p rec N lim (sampled_from p N lim s r l) (replaced_from p N lim s r l) m
    use_on =
        let t = sampled_from p N lim s r l in
        let n = length_sampled_from p N lim q s r h l in
        let e : min N (length (s ++ (l ++ m))) ≡ min N (length (t ++ m)) = simp (length-append, n) (omega arith) in
        λ i. record { used = e i; replaced = replaced_on p N lim q s r h l m i }

  -- one more, where the slots hold s and the first r are replaced
  module _ (s : List A) (r : ℕ) (h : r ≤ N) (k : length s ≤ N) (e : A) where
    abbrev kept : SlotUse
    kept = record { used = length s; replaced = r }

    abbrev Agrees : Place → Type 0
    Agrees w = Makes w (padded N (map rec s)) kept (rec e) (slots_from p rec N lim s r (e ∷ [])) (use_from p rec N lim s r (e ∷ []))

    place_free : length s < N → Agrees free
    place_free g =
        let f : length (s ++ e ∷ []) ≤ N = rw length-append (omega arith) in
        let u : length s + 1 ≡ min N (length (s ++ e ∷ [])) = rw length-append (omega arith) in (
          rw (sampled_few_from p N lim s r (e ∷ []) f, map_append, ← length-map s rec)
              (padded_fill N (map rec s) (rec e) (rw length-map g)),
          λ i. record { used = u i; replaced = sym (replaced_few_from p N lim s r (e ∷ []) f) i },
        )

    -- no slot is free
    module _ (g : N ≤ length s) where
      full : length s ≡ N
      full = omega arith

      used_full : length s ≡ min N (length (s ++ e ∷ []))
      used_full = rw length-append (omega arith)

      replacers_one : replacers_from p N lim s r (e ∷ []) ≡ take (lim - r) (join_if (p e) e [])
      unfolding replacers_from
      replacers_one = rw (drop_at s (e ∷ []) N full, keep_one)

      place_replace : p e ≡ true → r < lim → Agrees replace
      unfolding sampled_from replaced_from
      place_replace b v =
          let hi : replacers_from p N lim s r (e ∷ []) ≡ e ∷ [] = replacers_one ∙ rw b (take_all (lim - r) (e ∷ []) (omega arith)) in
          let x : r < length s = omega arith in (
            rw (hi, take_at s (e ∷ []) N full, over_one r s e x, map_set) (padded_set N (map rec s) r (rec e) (rw length-map x)),
            rw hi (λ i. record { used = used_full i; replaced = r + 1 }),
          )

      place_none : take (lim - r) (join_if (p e) e []) ≡ [] → Agrees none
      unfolding sampled_from replaced_from
      place_none hi =
          let z : r ≡ r + 0 = omega arith in (
            rw (replacers_one ∙ hi, take_at s (e ∷ []) N full, ← paste-zero s r []),
            rw (replacers_one ∙ hi) (λ i. record { used = used_full i; replaced = z i }),
          )

    place_by : (b₁ b₂ b₃ : Bool) → ltb (length s) N ≡ b₁ → p e ≡ b₂ → ltb r lim ≡ b₃ → Agrees (cond b₁ free (cond (b₂ && b₃) replace none))
    place_by true b₂ b₃ q₁ q₂ q₃ = place_free (ltb-true _ _ q₁)
    place_by false true true q₁ q₂ q₃ = place_replace (ltb-false _ _ q₁) q₂ (ltb-true _ _ q₃)
    place_by false true false q₁ q₂ q₃ = let z : lim - r ≡ 0 = omega (arith, ltb-false) in place_none (ltb-false _ _ q₁) (rw z)
    place_by false false b₃ q₁ q₂ q₃ = place_none (ltb-false _ _ q₁) (rw q₂ (take-nil (lim - r)))

    place_one : Agrees (place_of N kept lim (p e))
    unfolding place_of
    place_one = place_by (ltb (length s) N) (p e) (ltb r lim) refl refl refl

  -- placing one more agrees with the rule
  pub place_agrees_from : (s : List A) (r : ℕ) → r ≤ N → (l : List A) (e : A)
      → Makes (place_of N (use_from p rec N lim s r l) lim (p e)) (slots_from p rec N lim s r l) (use_from p rec N lim s r l) (rec e)
      (slots_from p rec N lim s r (l ++ e ∷ [])) (use_from p rec N lim s r (l ++ e ∷ []))
  place_agrees_from s r h l e =
      let n = length_sampled_from p N lim q s r h l in
      let k : length (sampled_from p N lim s r l) ≤ N = omega arith in
      let one = place_one (sampled_from p N lim s r l) (replaced_from p N lim s r l) (replaced_most_from p N lim q s r h l) k e in
      rw (← n) (one.0 ∙ sym (slots_on s r h l (e ∷ [])), one.1 ∙ sym (use_on s r h l (e ∷ [])))

  pub place_agrees : (l : List A) (e : A)
      → Makes (place_of N (use_of p rec N lim l) lim (p e)) (slots_of p rec N lim l) (use_of p rec N lim l) (rec e)
      (slots_of p rec N lim (l ++ e ∷ [])) (use_of p rec N lim (l ++ e ∷ []))
  unfolding slots_of use_of
  place_agrees l e = place_agrees_from [] 0 (omega arith) l e

-- ---- how many slots are filled

-- as std counts them
pub filled_count : (l : List ℕ) → count_by (ltb 0) l ≡ filled l
unfolding filled keep
filled_count l = sym (length-filter (ltb 0) l) ∙ ap (λ (m : List ℕ). length m) (kept l)
  where
    join : (b : Bool) (x : ℕ) (xs : List ℕ) → cond b (x ∷ xs) xs ≡ join_if b x xs
    join true x xs = refl
    join false x xs = refl

    kept : (l : List ℕ) → filter (ltb 0) l ≡ keep (ltb 0) l
    kept [] = refl
    kept (x ∷ xs) = join (ltb 0 x) x (filter (ltb 0) xs) ∙ ap (join_if (ltb 0 x) x) (kept xs)

filled_append : (a b : List ℕ) → filled (a ++ b) ≡ filled a + filled b
unfolding filled
filled_append a b = rw (keep_append, length-append)

filled_zeros : (m : ℕ) → filled (replicate m 0) ≡ 0
unfolding filled keep
filled_zeros zero = refl
filled_zeros (suc m) = filled_zeros m

-- no record is 0, so the filled slots are as many as the records
pub filled_padded : (N : ℕ) (l : List ℕ) → filled l ≡ length l → filled (padded N l) ≡ length l
unfolding padded
filled_padded N l h =
    filled_append l (replicate (N - length l) 0) ∙ omega (arith, filled_zeros (N - length l))
