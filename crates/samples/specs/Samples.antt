-- The samples of an interval (document 01, "One event", Samples; document 02, Point 7). Assumes nothing.
use Rattle.std.specs.Prelude.{Bool, false, ◌&&◌, ◌||◌, not, cond, List, [], ◌++◌, map, ℕ, ◌+◌, ◌-◌, min, leb, ltb, length, take, drop, set}
use Rattle.wire.specs.Lists.{keep}
use Rattle.wire.specs.Pieces.{padded}
use Rattle.sample_record.specs.declared.Sample.{Sample}
use Rattle.sample_record.specs.Record.{record_of}
use Rattle.sort.specs.declared.event.Event.{Event}
use Rattle.sort.specs.declared.sorting.Outcome.{Outcome}
use Rattle.sort.specs.declared.sorting.Outcome.TheVariants.{Discarded, OutOfBounds, InCell}
use Rattle.boxes.specs.Boxes.{discarded_box, out_of_bounds_box}
use Rattle.sort.specs.Event.{gain_of, channel_of}
use Rattle.samples.specs.declared.slots.SlotUse.{SlotUse}

-- ---- one event's record

-- the box of rules 1, 4 and 5, and the priority: only a cell can give priority 1
abbrev pub box_of : Outcome → ℕ
box_of Discarded = discarded_box
box_of (OutOfBounds gain) = out_of_bounds_box
box_of (InCell gain cell) = cell.ratebox

abbrev pub priority_of : Outcome → Bool
priority_of Discarded = false
priority_of (OutOfBounds gain) = false
priority_of (InCell gain cell) = cell.priority

-- "boxes 8 to 116 are eligible; boxes 6 and 7 only with junk 1"
abbrev pub eligible : (junk : Bool) → Outcome → Bool
eligible junk o = leb 8 (box_of o) || (junk && leb 6 (box_of o))

-- the fields of an event's record
abbrev pub sample_from : Event → Outcome → Sample
sample_from e o = record {
  t = e.t;
  channel = channel_of e;
  flg0 = e.flg0;
  flg1 = e.flg1;
  gain = gain_of e;
  error = e.error;
  ratebox = box_of o;
  priority = priority_of o;
}

unfoldable pub event_record : Event → Outcome → ℕ
event_record e o = record_of (sample_from e o)

-- ---- one record's place

-- a record goes to the first slot that is free, to the slot of the next replacement, or nowhere
pub data Place : Type 0 where
  free : Place
  replace : Place
  none : Place

-- with this many slots, so many of them used and replaced
unfoldable pub place_of : (slots : ℕ) → SlotUse → (limhi : ℕ) (priority : Bool) → Place
place_of slots u limhi priority = cond (ltb u.used slots) free (cond (priority && ltb u.replaced limhi) replace none)

abbrev pub slots_after : Place → List ℕ → SlotUse → (rec : ℕ) → List ℕ
slots_after free slots u rec = set slots u.used rec
slots_after replace slots u rec = set slots u.replaced rec
slots_after none slots u rec = slots

abbrev pub use_after : Place → SlotUse → SlotUse
use_after free u = record { used = u.used + 1; replaced = u.replaced }
use_after replace u = record { used = u.used; replaced = u.replaced + 1 }
use_after none u = u

-- ---- the rule, with N slots: `start` is what they hold so far (N at most), the first `replaced` of it are replaced already,
-- and l has the further eligible events in order

module _ {A : Type 0} (priority : A → Bool) (N limhi : ℕ) where
  -- "the first 704 eligible in order"
  abbrev pub first_from : (start l : List A) → List A
  first_from start l = take N (start ++ l)

  -- those that replace a slot: the later ones with priority 1, from the first slot not replaced on, "while h < LIMHI"
  unfoldable pub replacers_from : (start : List A) (replaced : ℕ) (l : List A) → List A
  replacers_from start replaced l = take (limhi - replaced) (keep priority (drop N (start ++ l)))

  -- how many slots are replaced then
  unfoldable pub replaced_from : (start : List A) (replaced : ℕ) (l : List A) → ℕ
  replaced_from start replaced l = replaced + length (replacers_from start replaced l)

  -- "the first 704 eligible in order; then, for h from 0, the h-th later one with priority 1 replaces slot h while h < LIMHI"
  unfoldable pub sampled_from : (start : List A) (replaced : ℕ) (l : List A) → List A
  sampled_from start replaced l =
      take replaced (first_from start l)
      ++ replacers_from start replaced l
      ++ drop (replaced_from start replaced l) (first_from start l)

  -- the rule of document 01 starts with empty slots: l has all eligible events of the interval
  abbrev pub replaced_by : List A → ℕ
  replaced_by l = replaced_from [] 0 l

  abbrev pub sampled : List A → List A
  sampled l = sampled_from [] 0 l

-- "filled slots (the number of lent slots not zero)"
unfoldable pub filled : List ℕ → ℕ
filled slots = length (keep (ltb 0) slots)

-- the N slots then, the records and zeros behind them ("A zero slot is empty"), and how many of them are used and replaced
module _ {A : Type 0} (priority : A → Bool) (rec : A → ℕ) (N limhi : ℕ) where
  abbrev pub slots_from : (start : List A) (replaced : ℕ) (l : List A) → List ℕ
  slots_from start replaced l = padded N (map rec (sampled_from priority N limhi start replaced l))

  abbrev pub use_from : (start : List A) (replaced : ℕ) (l : List A) → SlotUse
  use_from start replaced l = record {
    used = min N (length (start ++ l));
    replaced = replaced_from priority N limhi start replaced l;
  }

  -- from empty slots
  unfoldable pub slots_of : List A → List ℕ
  slots_of l = slots_from [] 0 l

  unfoldable pub use_of : List A → SlotUse
  use_of l = use_from [] 0 l

-- ---- what became of them (document 02, Point 7): l has all eligible events of the interval, in order

module _ {A : Type 0} (priority : A → Bool) (N limhi : ℕ) where
  -- those "after the 704th eligible one"
  abbrev pub later : List A → List A
  later l = drop N l

  -- "the priority 1 eligible events after the 704th eligible one, or .. LIMHI if less"
  unfoldable pub replaced_events : List A → ℕ
  replaced_events l = min limhi (length (keep priority (later l)))

  -- "every other one after the 704th": those with priority 0, and those with priority 1 behind the first LIMHI
  unfoldable pub dropped_events : List A → ℕ
  dropped_events l = length (keep (λ x. not (priority x)) (later l)) + length (drop limhi (keep priority (later l)))
