-- What events select as samples (document 01, "One event", Samples, and "The tally of demand 3"): one event at a time, as the processor
-- does it, and a whole list at once, as replies, packets and the tally have it. Assumes nothing.
use Rattle.std.specs.Prelude.{◌≡◌, Bool, true, false, cond, List, map, ℕ, ◌+◌, ◌<◌, min, length, get_or}
use Rattle.wire.specs.Lists.{All, Distinct, keep}
use Rattle.wire.specs.Pieces.{padded}
use Rattle.settings.specs.declared.Settings.{Settings}
use Rattle.sort.specs.declared.event.Event.{Event}
use Rattle.sort.specs.declared.sorting.Outcome.{Outcome}
use Rattle.sort.specs.Sorting.{outcome_of}
use Rattle.samples.specs.declared.slots.SlotUse.{SlotUse}
use Rattle.samples.specs.declared.selection.SampleUse.{SampleUse}
use Rattle.samples.specs.Samples.{eligible, priority_of, event_record, Place, none, place_of, slots_after, use_after, slots_of, use_of}
use Rattle.samples.specs.Samples.{replaced_events, dropped_events}

-- ---- one event, with N slots

-- where an event's record goes: nowhere unless it is eligible
abbrev pub place_for : (N : ℕ) → SlotUse → Settings → Outcome → Place
place_for N u s o = cond (eligible s.junk o) (place_of N u s.limhi (priority_of o)) none

abbrev pub slots_taken : (N : ℕ) → SampleUse → Settings → (slots : List ℕ) → Event → Outcome → List ℕ
slots_taken N u s slots e o = slots_after (place_for N u.slots s o) slots u.slots (event_record e o)

-- and one more is eligible, or none
abbrev pub use_taken : (N : ℕ) → SampleUse → Settings → Outcome → SampleUse
use_taken N u s o = record {
  slots = use_after (place_for N u.slots s o) u.slots;
  eligible = cond (eligible s.junk o) (u.eligible + 1) u.eligible;
}

-- ---- a list of events

-- by the settings and the tables of the interval
module _ (s : Settings) (tables : List ℕ) where
  -- "boxes and beacon by rules 1 to 5"
  abbrev pub sorted : Event → Outcome
  sorted e = outcome_of s tables e

  abbrev pub is_eligible : Event → Bool
  is_eligible e = eligible s.junk (sorted e)

  abbrev pub priority : Event → Bool
  priority e = priority_of (sorted e)

  abbrev pub record_for : Event → ℕ
  record_for e = event_record e (sorted e)

  -- those that are eligible, in order
  unfoldable pub eligibles_by : List Event → List Event
  eligibles_by es = keep is_eligible es

-- what becomes of them: the eligible ones, the slots, what the interval keeps of both, and how many events filled a slot, replaced another's
-- record or were dropped (document 02, Point 7)
pub record Selection : Type 0 where
  pub eligibles : List Event
  pub slots : List ℕ
  pub samples : SampleUse
  pub filled : ℕ
  pub replaced : ℕ
  pub dropped : ℕ

-- "the sample rule over them gives the eligible ones and the slots", of which there are N
module _ (N : ℕ) (s : Settings) (tables : List ℕ) where
  unfoldable pub slots_by : List Event → List ℕ
  slots_by es = slots_of (priority s tables) (record_for s tables) N s.limhi (eligibles_by s tables es)

  unfoldable pub use_by : List Event → SampleUse
  use_by es = record {
    slots = use_of (priority s tables) (record_for s tables) N s.limhi (eligibles_by s tables es);
    eligible = length (eligibles_by s tables es);
  }

  abbrev pub selection_of : List Event → Selection
  selection_of es = record {
    eligibles = eligibles_by s tables es;
    slots = slots_by es;
    samples = use_by es;
    filled = min N (length (eligibles_by s tables es));
    replaced = replaced_events (priority s tables) N s.limhi (eligibles_by s tables es);
    dropped = dropped_events (priority s tables) N s.limhi (eligibles_by s tables es);
  }

-- ---- different events

-- the event at a place of the list; past its end, which no place below is, an event of zeros
abbrev pub no_event : Event
no_event = record { t = 0; high = 0; low = 0; flg0 = false; flg1 = false; error = false; stop = false }

abbrev pub event_at : List Event → ℕ → Event
event_at es i = get_or es i no_event

-- the N slots are the records of `many` different eligible events, at distinct places of the list, and zeros behind them
pub record OfDifferentEvents (N : ℕ) (s : Settings) (tables : List ℕ) (es : List Event) (many : ℕ) (slots : List ℕ) : Type 0 where
  pub places : List ℕ
  pub places_differ : Distinct places
  pub places_below : All (λ i. i < length es) places
  pub places_eligible : All (λ i. is_eligible s tables (event_at es i) ≡ true) places
  pub places_many : length places ≡ many
  pub slots_are : slots ≡ padded N (map (λ i. record_for s tables (event_at es i)) places)
