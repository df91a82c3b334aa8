-- The slots hold the records of different events: the sample rule on the events' places. Assumes nothing.
use Rattle.std.proofs.Common.{◌≡◌, refl, sym, ap, ap₂, ◌∙◌, ◌≢◌, Bool, true, false, List, [], ◌∷◌, ◌++◌, map, ℕ, zero, suc, ◌+◌}
use Rattle.std.proofs.Common.{◌≤◌, ◌<◌, min, add-one, arith, length, get_or, take, drop, length-append}
use mathlib.Core.List.{map-map}
use Rattle.std.proofs.Math.ListN.{length-map}
use Rattle.std.proofs.Math.Seq.{append_snoc, get_or-append_seam}
use Rattle.wire.specs.Lists.{All, Distinct, join_if, keep}
use Rattle.wire.specs.Pieces.{padded}
use Rattle.settings.specs.declared.Settings.{Settings}
use Rattle.sort.specs.declared.event.Event.{Event}
use Rattle.samples.specs.Samples.{replaced_by, sampled, slots_of}
use Rattle.samples.specs.Selection.{is_eligible, priority, record_for, eligibles_by, slots_by, selection_of}
use Rattle.samples.specs.Selection.{no_event, event_at, OfDifferentEvents}
use Rattle.samples.proofs.SampleLaws.{map_append, length_sampled, sampled_is, replaced_is}

-- ---- a property of every element

module _ {A : Type 0} (P : A → Type 0) where
  All-append : (l m : List A) → All P l → All P m → All P (l ++ m)
  All-append [] m a b = b
  All-append (x ∷ xs) m a b = (a.0, All-append xs m a.1 b)

  All-take : (n : ℕ) (l : List A) → All P l → All P (take n l)
  All-take zero l a = tt
  All-take (suc n) [] a = tt
  All-take (suc n) (x ∷ xs) a = (a.0, All-take n xs a.1)

  All-drop : (n : ℕ) (l : List A) → All P l → All P (drop n l)
  All-drop zero l a = a
  All-drop (suc n) [] a = tt
  All-drop (suc n) (x ∷ xs) a = All-drop n xs a.1

  All-join : (b : Bool) (x : A) (l : List A) → P x → All P l → All P (join_if b x l)
  All-join true x l h a = (h, a)
  All-join false x l h a = a

  pub All-keep : (p : A → Bool) (l : List A) → All P l → All P (keep p l)
  unfolding keep
  All-keep p [] a = tt
  All-keep p (x ∷ xs) a = All-join (p x) x (keep p xs) a.0 (All-keep p xs a.1)

  pub All-sampled : (p : A → Bool) (N lim : ℕ) (l : List A) → All P l → All P (sampled p N lim l)
  All-sampled p N lim l a =
      let k : ℕ = replaced_by p N lim l in
      rw (sampled_is p N lim l)
      (All-append (take lim (keep p (drop N l))) (drop k (take N l))
      (All-take lim (keep p (drop N l)) (All-keep p (drop N l) (All-drop N l a)))
      (All-drop k (take N l) (All-take N l a)))

-- ---- elements that differ

module _ {A : Type 0} where
  Distinct-take : (n : ℕ) (l : List A) → Distinct l → Distinct (take n l)
  Distinct-take zero l d = tt
  Distinct-take (suc n) [] d = tt
  Distinct-take (suc n) (x ∷ xs) d = (All-take (λ y. x ≢ y) n xs d.0, Distinct-take n xs d.1)

  Distinct-drop : (n : ℕ) (l : List A) → Distinct l → Distinct (drop n l)
  Distinct-drop zero l d = d
  Distinct-drop (suc n) [] d = tt
  Distinct-drop (suc n) (x ∷ xs) d = Distinct-drop n xs d.1

  Distinct-join : (b : Bool) (x : A) (l : List A) → All (λ y. x ≢ y) l → Distinct l → Distinct (join_if b x l)
  Distinct-join true x l a d = (a, d)
  Distinct-join false x l a d = d

  Distinct-keep : (p : A → Bool) (l : List A) → Distinct l → Distinct (keep p l)
  unfolding keep
  Distinct-keep p [] d = tt
  Distinct-keep p (x ∷ xs) d = Distinct-join (p x) x (keep p xs) (All-keep (λ y. x ≢ y) p xs d.0) (Distinct-keep p xs d.1)

  Distinct-append : (l m : List A) → Distinct l → Distinct m → All (λ x. All (λ y. x ≢ y) m) l → Distinct (l ++ m)
  Distinct-append [] m d e a = e
  Distinct-append (x ∷ xs) m d e a = (All-append (λ y. x ≢ y) xs m d.0 a.0, Distinct-append xs m d.1 e a.1)

  -- those before n differ from those after
  apart : (n : ℕ) (l : List A) → Distinct l → All (λ x. All (λ y. x ≢ y) (drop n l)) (take n l)
  apart zero l d = tt
  apart (suc n) [] d = tt
  apart (suc n) (x ∷ xs) d = (All-drop (λ y. x ≢ y) n xs d.0, apart n xs d.1)

  flip_one : (y : A) (ys a : List A) → All (λ x. All (λ z. x ≢ z) (y ∷ ys)) a → All (λ x. y ≢ x) a × All (λ x. All (λ z. x ≢ z) ys) a
  flip_one y ys [] h = (tt, tt)
  flip_one y ys (x ∷ xs) h = let r = flip_one y ys xs h.1 in (((λ e. h.0.0 (sym e)), r.0), (h.0.1, r.1))

  flip : (b a : List A) → All (λ x. All (λ y. x ≢ y) b) a → All (λ y. All (λ x. y ≢ x) a) b
  flip [] a h = tt
  flip (y ∷ ys) a h = let r = flip_one y ys a h in (r.0, flip ys a r.1)

  Distinct-sampled : (p : A → Bool) (N lim : ℕ) (l : List A) → Distinct l → Distinct (sampled p N lim l)
  Distinct-sampled p N lim l d =
      let k : ℕ = replaced_by p N lim l in
      let later = keep p (drop N l) in
      let first = drop k (take N l) in
      rw (sampled_is p N lim l)
      (Distinct-append (take lim later) first
      (Distinct-take lim later (Distinct-keep p (drop N l) (Distinct-drop N l d)))
      (Distinct-drop k (take N l) (Distinct-take N l d))
      (All-take _ lim later (All-keep _ p (drop N l) (flip (drop N l) first (All-drop _ k (take N l) (apart N l d))))))

-- ---- the rule under a map

module _ {A B : Type 0} (f : A → B) where
  map_take : (n : ℕ) (l : List A) → map f (take n l) ≡ take n (map f l)
  map_take zero l = refl
  map_take (suc n) [] = refl
  map_take (suc n) (x ∷ xs) = ap (λ (r : List B). f x ∷ r) (map_take n xs)

  map_drop : (n : ℕ) (l : List A) → map f (drop n l) ≡ drop n (map f l)
  map_drop zero l = refl
  map_drop (suc n) [] = refl
  map_drop (suc n) (x ∷ xs) = map_drop n xs

  map_join : (b : Bool) (x : A) (l : List A) → map f (join_if b x l) ≡ join_if b (f x) (map f l)
  map_join true x l = refl
  map_join false x l = refl

  map_keep : (p : B → Bool) (l : List A) → map f (keep (λ x. p (f x)) l) ≡ keep p (map f l)
  unfolding keep
  map_keep p [] = refl
  map_keep p (x ∷ xs) = map_join (p (f x)) x (keep (λ x. p (f x)) xs) ∙ ap (join_if (p (f x)) (f x)) (map_keep p xs)

  replaced_map : (p : B → Bool) (N lim : ℕ) (l : List A) → replaced_by (λ x. p (f x)) N lim l ≡ replaced_by p N lim (map f l)
  replaced_map p N lim l =
      replaced_is (λ x. p (f x)) N lim l
      ∙ ap (min lim) (sym (length-map (keep (λ x. p (f x)) (drop N l)) f) ∙ ap length (map_keep p (drop N l) ∙ ap (keep p) (map_drop N l)))
      ∙ sym (replaced_is p N lim (map f l))

  map_sampled : (p : B → Bool) (N lim : ℕ) (l : List A) → map f (sampled (λ x. p (f x)) N lim l) ≡ sampled p N lim (map f l)
  map_sampled p N lim l =
      let e : map f (take lim (keep (λ x. p (f x)) (drop N l)) ++ drop (replaced_by (λ x. p (f x)) N lim l) (take N l))
      ≡ take lim (keep p (drop N (map f l))) ++ drop (replaced_by p N lim (map f l)) (take N (map f l)) =
      rw (map_append, map_take, map_drop, map_take, replaced_map p N lim l, map_keep p, map_drop) in
      ap (map f) (sampled_is (λ x. p (f x)) N lim l) ∙ e ∙ sym (sampled_is p N lim (map f l))

-- ---- a, a + 1, .., n of them

range : ℕ → ℕ → List ℕ
range a zero = []
range a (suc n) = a ∷ range (suc a) n

All-range : (P : ℕ → Type 0) (a n : ℕ) → ((i : ℕ) → a ≤ i → i < a + n → P i) → All P (range a n)
unfolding range
All-range P a zero h = tt
All-range P a (suc n) h = (h a (omega arith) (omega arith), All-range P (suc a) n (λ i l g. h i (omega arith) (omega arith)))

Distinct-range : (a n : ℕ) → Distinct (range a n)
unfolding range
Distinct-range a zero = tt
Distinct-range a (suc n) = (All-range (λ y. a ≢ y) (suc a) n (λ i l g e. omega arith), Distinct-range (suc a) n)

-- a list is what stands at its places
module _ {A : Type 0} (d : A) where
  shifted : (pre l : List A) → map (λ i. get_or (pre ++ l) i d) (range (length pre) (length l)) ≡ l
  unfolding range
  shifted pre [] = refl
  shifted pre (x ∷ xs) =
      ap₂ (λ (a : A) (r : List A). a ∷ r) (get_or-append_seam pre x xs d)
      (simp (append_snoc, length-append, add-one) at (shifted (pre ++ x ∷ []) xs))

  at_places : (l : List A) → map (λ i. get_or l i d) (range 0 (length l)) ≡ l
  at_places l = shifted [] l

-- ---- the samples of an interval

-- those that pass a test pass it, and keep what all have
pub keep_passes : {A : Type 0} (P : A → Type 0) (p : A → Bool) (l : List A) → All P l → All (λ x. P x × (p x ≡ true)) (keep p l)
unfolding keep
keep_passes P p [] h = tt
keep_passes P p (x ∷ xs) h = go (p x) refl (keep_passes P p xs h.1)
  where
    go : (b : Bool) → p x ≡ b → All (λ x. P x × (p x ≡ true)) (keep p xs) → All (λ x. P x × (p x ≡ true)) (join_if b x (keep p xs))
    go true q r = ((h.0, q), r)
    go false q r = r

pub All-map : {A : Type 0} (P Q : A → Type 0) → ((x : A) → P x → Q x) → (l : List A) → All P l → All Q l
All-map P Q f [] h = tt
All-map P Q f (x ∷ xs) h = (f x h.0, All-map P Q f xs h.1)

-- the places of the eligible events, and of those in the slots
module _ (N : ℕ) (s : Settings) (tables : List ℕ) (es : List Event) where
  abbrev eligible_places : List ℕ
  eligible_places = keep (λ i. is_eligible s tables (event_at es i)) (range 0 (length es))

  abbrev sample_places : List ℕ
  sample_places = sampled (λ i. priority s tables (event_at es i)) N s.limhi eligible_places

  places_events : map (event_at es) sample_places ≡ sampled (priority s tables) N s.limhi (eligibles_by s tables es)
  unfolding eligibles_by
  places_events =
      map_sampled (event_at es) (priority s tables) N s.limhi eligible_places
      ∙ ap (sampled (priority s tables) N s.limhi)
      (map_keep (event_at es) (is_eligible s tables) (range 0 (length es)) ∙ ap (keep (is_eligible s tables)) (at_places no_event es))

  slots_places : slots_by N s tables es ≡ padded N (map (λ i. record_for s tables (event_at es i)) sample_places)
  unfolding slots_by slots_of
  slots_places = ap (padded N) (ap (map (record_for s tables)) (sym places_events) ∙ map-map _ _ sample_places)

  -- each is a place of the list, and of an eligible event
  places_good : All (λ i. (i < length es) × (is_eligible s tables (event_at es i) ≡ true)) sample_places
  places_good =
      All-sampled _ _ N s.limhi _
      (keep_passes _ (λ i. is_eligible s tables (event_at es i)) (range 0 (length es)) (All-range _ 0 (length es) (λ i l g. omega arith)))

  pub selected_differ : s.limhi ≤ N
      → OfDifferentEvents N s tables es (selection_of N s tables es).filled (selection_of N s tables es).slots
  selected_differ q =
      let places = sample_places in
      let Fit : ℕ → Type 0 = λ i. is_eligible s tables (event_at es i) ≡ true in
      let Good : ℕ → Type 0 = λ i. (i < length es) × Fit i in
      record {
        places = places;
        places_differ = Distinct-sampled _ N s.limhi _ (Distinct-keep _ (range 0 (length es)) (Distinct-range 0 (length es)));
        places_below = All-map Good (λ i. i < length es) (λ i p. p.0) places places_good;
        places_eligible = All-map Good Fit (λ i p. p.1) places places_good;
        places_many = sym (length-map places (event_at es))
            ∙ ap length places_events
            ∙ length_sampled (priority s tables) N s.limhi (eligibles_by s tables es) q;
        slots_are = slots_places;
      }
