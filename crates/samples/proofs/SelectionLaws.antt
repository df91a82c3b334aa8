-- What a list of events selects: one event more, none, as many slots filled as there are eligible events, up to their number, and each
-- slot zero or of box 6 to 116. Assumes nothing.
use Rattle.std.proofs.Common.{◌≡◌, refl, sym, ap, ◌∙◌, Bool, true, false, ◌&&◌, ◌||◌, cond, List, [], ◌∷◌, ◌++◌, map, append-nil, ℕ}
use Rattle.std.proofs.Common.{zero, suc, ◌+◌, ◌-◌, ◌≤◌, min, arith, lt-ltb, le-leb, leb-true, eqb, leb, length, replicate, length-append}
use Rattle.std.proofs.Math.Bool.{false≢true}
use Rattle.std.proofs.Math.Nat.{sub-zero}
use Rattle.std.proofs.Math.ListN.{length-map, length-replicate}
use Rattle.wire.specs.Bytes.{zeros}
use Rattle.wire.specs.Lists.{All, all, join_if, keep}
use Rattle.wire.specs.Pieces.{padded}
use Rattle.wire.proofs.Lists.{all_append, keep_append, keep_one}
use Rattle.settings.specs.declared.Settings.{Settings}
use Rattle.sample_record.specs.Record.{record_box, record_good}
use Rattle.sort.specs.declared.event.Event.{Event}
use Rattle.sort.specs.Event.{in_range}
use Rattle.sort.proofs.EventLaws.{outcome_names}
use Rattle.samples.specs.declared.slots.SlotUse.{SlotUse}
use Rattle.samples.specs.Samples.{box_of, Place, none, place_of, slots_after, use_after, sampled, slots_of, use_of, filled, replaced_events}
use Rattle.samples.specs.Selection.{slots_taken, use_taken, sorted, is_eligible, priority, record_for, eligibles_by, slots_by, use_by, selection_of}
use Rattle.samples.proofs.RecordLaws.{event_nonzero, box_fits, event_box}
use Rattle.samples.proofs.SampleLaws.{length_sampled, filled_padded, place_agrees, replaced_few, replaced_is, sampled_few, sum_of}
use Rattle.samples.proofs.Places.{keep_passes, All-sampled}

-- ---- one event more

module _ (N : ℕ) (s : Settings) (tables : List ℕ) (q : s.limhi ≤ N) (es : List Event) (e : Event) where
  eligibles_snoc : eligibles_by s tables (es ++ e ∷ []) ≡ eligibles_by s tables es ++ join_if (is_eligible s tables e) e []
  unfolding eligibles_by
  eligibles_snoc = rw (keep_append, keep_one)

  -- what the slots and their use are after the event, by whether it is eligible
  abbrev slots_in : List Event → List ℕ
  slots_in = slots_of (priority s tables) (record_for s tables) N s.limhi

  abbrev use_in : List Event → SlotUse
  use_in = use_of (priority s tables) (record_for s tables) N s.limhi

  abbrev Went : Place → List Event → Type 0
  Went p l =
      (slots_after p (slots_by N s tables es) (use_by N s tables es).slots (record_for s tables e) ≡ slots_in l)
      × (use_after p (use_by N s tables es).slots ≡ use_in l)

  went_by : (b : Bool)
      → Went (cond b (place_of N (use_by N s tables es).slots s.limhi (priority s tables e)) none) (eligibles_by s tables es ++ join_if b e [])
  unfolding slots_by use_by
  went_by true = place_agrees (priority s tables) (record_for s tables) N s.limhi q (eligibles_by s tables es) e
  went_by false = (
    ap slots_in (sym (append-nil (eligibles_by s tables es))),
    ap use_in (sym (append-nil (eligibles_by s tables es))),
  )

  one_counted : (b : Bool)
      → cond b (length (eligibles_by s tables es) + 1) (length (eligibles_by s tables es))
      ≡ length (eligibles_by s tables es ++ join_if b e [])
  one_counted true = sym (length-append (eligibles_by s tables es) (e ∷ []))
  one_counted false = ap (λ (l : List Event). length l) (sym (append-nil (eligibles_by s tables es)))

  pub one_more_slots : slots_taken N (use_by N s tables es) s (slots_by N s tables es) e (sorted s tables e) ≡ slots_by N s tables (es ++ e ∷ [])
  unfolding slots_by
  one_more_slots = (went_by (is_eligible s tables e)).0 ∙ ap slots_in (sym eligibles_snoc)

  pub one_more_use : use_taken N (use_by N s tables es) s (sorted s tables e) ≡ use_by N s tables (es ++ e ∷ [])
  unfolding use_by
  one_more_use =
      let slots = (went_by (is_eligible s tables e)).1 ∙ ap use_in (sym eligibles_snoc) in
      let eligible = one_counted (is_eligible s tables e) ∙ ap (λ (l : List Event). length l) (sym eligibles_snoc) in
      λ i. record { slots = slots i; eligible = eligible i }

-- ---- no event

module _ (N : ℕ) (s : Settings) (tables : List ℕ) where
  none_eligible : eligibles_by s tables [] ≡ []
  unfolding eligibles_by keep
  none_eligible = refl

  pub no_slots : zeros N ≡ slots_by N s tables []
  unfolding slots_by slots_of padded
  no_slots = rw (none_eligible, sampled_few (priority s tables) N s.limhi [] (omega arith), sub-zero)

  pub no_use : record { slots = record { used = 0; replaced = 0 }; eligible = 0 } ≡ use_by N s tables []
  unfolding use_by use_of
  no_use =
      let none : 0 ≡ min N 0 = omega arith in
      rw none_eligible
      (λ i. record {
        slots = record { used = none i; replaced = sym (replaced_few (priority s tables) N s.limhi [] (omega arith)) i };
        eligible = 0;
      })

-- ---- filled slots

-- no event makes zero, so as many slots are filled as there are records
records_filled : (s : Settings) (tables : List ℕ) (l : List Event)
    → filled (map (record_for s tables) l) ≡ length (map (record_for s tables) l)
unfolding filled keep
records_filled s tables [] = refl
records_filled s tables (e ∷ es) =
    let p = event_nonzero e (sorted s tables e) (outcome_names s tables e) in
    rw (lt-ltb 0 (record_for s tables e) p) (ap suc (records_filled s tables es))

module _ (N : ℕ) (s : Settings) (tables : List ℕ) (q : s.limhi ≤ N) (es : List Event) where
  abbrev chosen : List Event
  chosen = sampled (priority s tables) N s.limhi (eligibles_by s tables es)

  many_chosen : length chosen ≡ min N (length (eligibles_by s tables es))
  many_chosen = length_sampled (priority s tables) N s.limhi (eligibles_by s tables es) q

  pub filled_selected : filled (slots_by N s tables es) ≡ (selection_of N s tables es).filled
  unfolding slots_by slots_of
  filled_selected =
      filled_padded N (map (record_for s tables) chosen) (records_filled s tables chosen)
      ∙ length-map chosen (record_for s tables)
      ∙ many_chosen

  -- there are always N
  pub slots_length : length (slots_by N s tables es) ≡ N
  unfolding slots_by slots_of padded
  slots_length = simp (length-append, length-map, length-replicate, many_chosen) (omega arith)

-- ---- what became of the eligible events (document 02, Point 7)

module _ (N : ℕ) (s : Settings) (tables : List ℕ) (es : List Event) where
  -- the use of the slots counts those that were replaced
  pub replaced_selected : (use_by N s tables es).slots.replaced ≡ (selection_of N s tables es).replaced
  unfolding use_by use_of replaced_events
  replaced_selected = replaced_is (priority s tables) N s.limhi (eligibles_by s tables es)

  -- "Eligible = filled + replaced + dropped"
  pub sum_selected : length (selection_of N s tables es).eligibles
      ≡ (selection_of N s tables es).filled + (selection_of N s tables es).replaced + (selection_of N s tables es).dropped
  sum_selected = sum_of (priority s tables) N s.limhi (eligibles_by s tables es)

-- ---- each slot is zero or of box 6 to 116

eligible_box : (junk : Bool) (b : ℕ) → (leb 8 b || (junk && leb 6 b)) ≡ true → 6 ≤ b
eligible_box junk b h = go (leb 8 b) refl junk (leb 6 b) refl h
  where
    go : (x : Bool) → leb 8 b ≡ x → (j y : Bool) → leb 6 b ≡ y → (x || (j && y)) ≡ true → 6 ≤ b
    go true e j y q k = omega (arith, leb-true 8 b e)
    go false e true true q k = leb-true 6 b q
    go false e true false q k = absurd (false≢true k)
    go false e false y q k = absurd (false≢true k)

-- a record with such a box is good
box_good : (x : ℕ) → 6 ≤ record_box x → record_box x ≤ 116 → record_good x ≡ true
box_good x a b = go (eqb x 0) (le-leb _ _ a) (le-leb _ _ b)
  where
    go : (z : Bool) → leb 6 (record_box x) ≡ true → leb (record_box x) 116 ≡ true
        → (z || (leb 6 (record_box x) && leb (record_box x) 116)) ≡ true
    go true a b = refl
    go false a b = rw (a, b)

module _ (s : Settings) (tables : List ℕ) where
  record_good_lem : (e : Event) → in_range e ≡ true → is_eligible s tables e ≡ true → record_good (record_for s tables e) ≡ true
  record_good_lem e r h =
      let o = sorted s tables e in
      let n = outcome_names s tables e in
      let q = event_box e o r n in
      box_good (record_for s tables e) (rw q (eligible_box s.junk (box_of o) h)) (rw q (box_fits o n))

  good_records : (l : List Event) → All (λ e. (in_range e ≡ true) × (is_eligible s tables e ≡ true)) l
      → all record_good (map (record_for s tables) l) ≡ true
  good_records [] h = refl
  good_records (e ∷ es) h = rw (record_good_lem e h.0.0 h.0.1) (good_records es h.1)

good_zeros : (n : ℕ) → all record_good (replicate n 0) ≡ true
good_zeros zero = refl
good_zeros (suc n) = good_zeros n

pub slots_good : (N : ℕ) (s : Settings) (tables : List ℕ) (es : List Event) → All (λ e. in_range e ≡ true) es
    → all record_good (slots_by N s tables es) ≡ true
unfolding slots_by slots_of padded eligibles_by
slots_good N s tables es range =
    let l = sampled (priority s tables) N s.limhi (eligibles_by s tables es) in
    let records = map (record_for s tables) l in
    all_append record_good records (replicate (N - length records) 0)
    (good_records s tables l
    (All-sampled _ (priority s tables) N s.limhi (eligibles_by s tables es)
    (keep_passes (λ e. in_range e ≡ true) (is_eligible s tables) es range)))
    (good_zeros (N - length records))
