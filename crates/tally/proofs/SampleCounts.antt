-- The counts of samples are those of the events by where they count: a test of boxes is the rule of eligible events, and box 2 has those
-- of priority 1. Assumes nothing.
use Rattle.std.proofs.Common.{◌≡◌, refl, sym, ap, ◌∙◌, Bool, true, false, ◌&&◌, ◌||◌, not, subst, List, [], ◌∷◌, ◌++◌, ℕ, ◌+◌}
use Rattle.std.proofs.Common.{◌≤◌, min, arith, le-leb, ne_eqb, leb, eqb, length, drop, drop_at, length-drop}
use Rattle.std.proofs.Math.Decide.{ℕ_discrete}
use Rattle.wire.specs.Lists.{all, holds, join_if, keep}
use Rattle.wire.proofs.Lists.{keep_append, length_keep}
use Rattle.settings.specs.declared.Settings.{Settings}
use Rattle.sort.specs.declared.event.Event.{Event}
use Rattle.sort.specs.declared.sorting.Outcome.{Outcome}
use Rattle.sort.specs.declared.sorting.Outcome.TheVariants.{Discarded, OutOfBounds, InCell}
use Rattle.sort.specs.Boxes.{OutcomeNames}
use Rattle.sort.proofs.EventLaws.{outcome_names}
use Rattle.counts.specs.Counts.{gain_box, priority_box, boxes_of}
use Rattle.samples.specs.Samples.{eligible, priority_of, replaced_events, dropped_events}
use Rattle.samples.specs.Selection.{sorted, is_eligible, priority, eligibles_by}
use Rattle.tally.specs.Events.{in_boxes, is_sample, with_priority, without_priority}
use Rattle.tally.specs.Tally.{Tally, events_of, slots_for, summary_for}
use Rattle.tally.specs.Demand3.{SamplesCounted}
use Rattle.tally.proofs.Balance.{eligible_count, above_seven}

-- ---- one event

-- in boxes 8 to 116, or with junk in 6 or 7: eligible
sample_is : (junk : Bool) (o : Outcome) → OutcomeNames o → (in_boxes 8 116 o || (junk && in_boxes 6 7 o)) ≡ eligible junk o
sample_is true Discarded h = refl
sample_is false Discarded h = refl
sample_is true (OutOfBounds true) h = refl
sample_is true (OutOfBounds false) h = refl
sample_is false (OutOfBounds true) h = refl
sample_is false (OutOfBounds false) h = refl
sample_is junk (InCell gain cell) h = go gain cell.priority cell.ratebox h.0 h.1 (ℕ_discrete 7 cell.ratebox)
  where
    Goal : (g p : Bool) (b : ℕ) → Type 0
    Goal g p b =
        (not (all (λ x. not (leb 8 x && leb x 116)) (gain_box g ∷ priority_box p ∷ b ∷ []))
        || (junk && not (all (λ x. not (leb 6 x && leb x 7)) (gain_box g ∷ priority_box p ∷ b ∷ []))))
        ≡ (leb 8 b || (junk && leb 6 b))

    seven : (g p j : Bool)
        → (not (all (λ x. not (leb 8 x && leb x 116)) (gain_box g ∷ priority_box p ∷ 7 ∷ []))
        || (j && not (all (λ x. not (leb 6 x && leb x 7)) (gain_box g ∷ priority_box p ∷ 7 ∷ []))))
        ≡ (leb 8 7 || (j && leb 6 7))
    seven true true true = refl
    seven true true false = refl
    seven true false true = refl
    seven true false false = refl
    seven false true true = refl
    seven false true false = refl
    seven false false true = refl
    seven false false false = refl

    high : (g p : Bool) (b : ℕ) → 8 ≤ b → b ≤ 116 → Goal g p b
    high true true b k l = rw (le-leb 8 b k, le-leb b 116 l) refl
    high true false b k l = rw (le-leb 8 b k, le-leb b 116 l) refl
    high false true b k l = rw (le-leb 8 b k, le-leb b 116 l) refl
    high false false b k l = rw (le-leb 8 b k, le-leb b 116 l) refl

    go : (g p : Bool) (b : ℕ) → 7 ≤ b → b ≤ 116 → Dec (7 ≡ b) → Goal g p b
    go g p b k l (yes e) = subst (Goal g p) e (seven g p junk)
    go g p b k l (no d) = high g p b (above_seven b k d) l

-- box 2 has those of priority 1
priority_is : (o : Outcome) → OutcomeNames o → holds 2 (boxes_of o) ≡ priority_of o
priority_is Discarded h = refl
priority_is (OutOfBounds true) h = refl
priority_is (OutOfBounds false) h = refl
priority_is (InCell gain cell) h = go gain cell.priority
  where
    other : eqb 2 cell.ratebox ≡ false
    other = ne_eqb 2 cell.ratebox (λ e. omega (arith, h.0))

    go : (g p : Bool) → holds 2 (gain_box g ∷ priority_box p ∷ cell.ratebox ∷ []) ≡ p
    go true true = refl
    go true false = rw other
    go false true = refl
    go false false = rw other

-- ---- tests of elements

module _ {A : Type 0} where
  keep_same : (p q : A → Bool) → ((x : A) → p x ≡ q x) → (l : List A) → keep p l ≡ keep q l
  unfolding keep
  keep_same p q h [] = refl
  keep_same p q h (x ∷ xs) = λ i. join_if (h x i) x (keep_same p q h xs i)

  -- those that pass one test and then another pass both
  keep_kept : (p q : A → Bool) (l : List A) → keep p (keep q l) ≡ keep (λ x. q x && p x) l
  unfolding keep
  keep_kept p q [] = refl
  keep_kept p q (x ∷ xs) = go (q x) (keep_kept p q xs)
    where
      go : (b : Bool) → keep p (keep q xs) ≡ keep (λ x. q x && p x) xs
          → keep p (join_if b x (keep q xs)) ≡ join_if (b && p x) x (keep (λ x. q x && p x) xs)
      go true h = ap (join_if (p x) x) h
      go false h = h

-- ---- a list of events

module _ (s : Settings) (tables : List ℕ) where
  sample_one : (e : Event) → is_sample s tables e ≡ is_eligible s tables e
  sample_one e = sample_is s.junk (sorted s tables e) (outcome_names s tables e)

  priority_one : (e : Event) → holds 2 (boxes_of (sorted s tables e)) ≡ priority s tables e
  priority_one e = priority_is (sorted s tables e) (outcome_names s tables e)

  -- behind the first events, N of which are eligible
  module _ (N : ℕ) (first after : List Event) (h : length (keep (is_sample s tables) first) ≡ N) where
    later : drop N (eligibles_by s tables (first ++ after)) ≡ keep (is_eligible s tables) after
    unfolding eligibles_by
    later =
        ap (drop N) (keep_append (is_eligible s tables) first after)
        ∙ drop_at (keep (is_eligible s tables) first) (keep (is_eligible s tables) after) N
        (ap (λ (l : List Event). length l) (sym (keep_same _ _ sample_one first)) ∙ h)

    later_with : keep (priority s tables) (drop N (eligibles_by s tables (first ++ after))) ≡ keep (with_priority s tables) after
    later_with =
        ap (keep (priority s tables)) later
        ∙ keep_kept (priority s tables) (is_eligible s tables) after
        ∙ sym (keep_same _ _ (λ e i. sample_one e i && priority_one e i) after)

    later_without : keep (λ e. not (priority s tables e)) (drop N (eligibles_by s tables (first ++ after)))
        ≡ keep (without_priority s tables) after
    later_without =
        ap (keep (λ e. not (priority s tables e))) later
        ∙ keep_kept (λ e. not (priority s tables e)) (is_eligible s tables) after
        ∙ sym (keep_same _ _ (λ e i. sample_one e i && not (priority_one e i)) after)

pub summary_counted : (t : Tally) → SamplesCounted t (summary_for t)
unfolding replaced_events dropped_events
summary_counted t =
    let s = t.settings in
    let es = events_of t in
    let N = slots_for t in
    let with_in : List Event → List Event = λ l. keep (priority s t.tables) (drop N (eligibles_by s t.tables l)) in
    let without_in : List Event → List Event = λ l. keep (λ e. not (priority s t.tables e)) (drop N (eligibles_by s t.tables l)) in
    let later_ones = drop N (eligibles_by s t.tables es) in
    let p = keep (priority s t.tables) later_ones in
    let few = length-drop N (eligibles_by s t.tables es) in
    let some = length_keep (priority s t.tables) later_ones in
    record {
      eligible_are = eligible_count s t.tables es;
      none_later = λ h. (
        omega (arith, h, few, some),
        omega (arith, h, few, some, length_keep (λ e. not (priority s t.tables e)) later_ones, length-drop s.limhi p),
      );
      replaced_are = λ first after e h.
          ap (λ (l : List Event). min s.limhi (length (with_in l))) e
          ∙ ap (λ (l : List Event). min s.limhi (length l)) (later_with s t.tables N first after h);
      dropped_are = λ first after e h.
          ap (λ (l : List Event). length (without_in l) + length (drop s.limhi (with_in l))) e
          ∙ omega (
            arith,
            ap (λ (l : List Event). length l) (later_without s t.tables N first after h),
            ap (λ (l : List Event). length l) (later_with s t.tables N first after h),
            length-drop s.limhi (with_in (first ++ after)),
          );
    }
