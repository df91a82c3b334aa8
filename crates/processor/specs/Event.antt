-- The call `event` (document 01, "One event" and "Causes and their numbers"). Assumes nothing.
use Rattle.std.specs.Prelude.{List, ℕ, length}
use Rattle.capacity.specs.Capacity.{numbers_of}
use Rattle.sort.specs.declared.event.Event.{Event}
use Rattle.sort.specs.declared.sorting.Outcome.{Outcome}
use Rattle.sort.specs.Sorting.{outcome_of}
use Rattle.samples.specs.Selection.{slots_taken}
use Rattle.state.specs.declared.State.{State}
use Rattle.state.specs.State.{with_interval}
use Rattle.take_event.specs.Event.{event_number, interval_taken}
use Rattle.processor.specs.Answer.{Answer, answer, if_carried_out}

-- what the call hands back and leaves in the lent slots
pub record EventDone : Type 0 where
  pub answer : Answer
  pub slots : List ℕ

abbrev pub event_by : (number : ℕ) → State → (slots : List ℕ) → Event → Outcome → EventDone
event_by number s slots e o =
    let N = (numbers_of s.capacity).slots in
    record {
      answer = answer number (if_carried_out number (with_interval s (interval_taken N s.interval s.settings o)) s);
      slots = if_carried_out number (slots_taken N s.interval.samples s.settings slots e o) slots;
    }

unfoldable pub event_done : State → (tables slots : List ℕ) → Event → EventDone
event_done s tables slots e = event_by (event_number s (length tables) (length slots) e) s slots e (outcome_of s.settings tables e)
