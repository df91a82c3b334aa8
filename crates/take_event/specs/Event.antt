-- One event: its number, and what it makes of the interval (document 01, "One event" and "Causes and their numbers"). Assumes nothing.
use Rattle.std.specs.Prelude.{Bool, ◌&&◌, List, [], ◌∷◌, ℕ, eqb, ltb}
use Rattle.causes.specs.Causes as cause
use Rattle.causes.specs.Checks.{Check, number_by}
use Rattle.capacity.specs.declared.Capacity.{Capacity}
use Rattle.capacity.specs.Capacity.{numbers_of}
use Rattle.settings.specs.declared.Settings.{Settings}
use Rattle.tables.specs.Tables.{table_bytes}
use Rattle.sort.specs.declared.event.Event.{Event}
use Rattle.sort.specs.declared.sorting.Outcome.{Outcome}
use Rattle.sort.specs.Event.{in_range}
use Rattle.counts.specs.Counts.{counted_of}
use Rattle.samples.specs.Selection.{use_taken}
use Rattle.state.specs.declared.State.{State}
use Rattle.state.specs.declared.interval.Interval.{Interval}
use Rattle.state.specs.Interval.{most_events, with_event}
use Rattle.state.specs.Limits.{within_limits}

-- no "lent buffer .. of other length", from the lengths of the tables and the slots
abbrev pub event_lent : Capacity → (tables slots : ℕ) → Bool
event_lent c tables slots = eqb tables table_bytes && eqb slots (numbers_of c).slots

-- what is lent, and the state, are sound; "event field over its range"; "event after 1,000,000 events"
abbrev pub event_checks : (sound : Bool) (taken : ℕ) → Event → List Check
event_checks sound taken e =
    (sound, cause.buffer_or_state) ∷ (in_range e, cause.field_range) ∷ (ltb taken most_events, cause.interval_full) ∷ []

unfoldable pub event_number : State → (tables slots : ℕ) → Event → ℕ
event_number s tables slots e =
    number_by (event_checks (within_limits s && event_lent s.capacity tables slots) s.interval.taken e)

-- one event more: taken, the boxes and beacons of rules 1 to 5, and the use of the slots, of which there are N
unfoldable pub interval_taken : (N : ℕ) → Interval → Settings → Outcome → Interval
interval_taken N i s o = with_event i (counted_of i.counts o) (use_taken N i.samples s o)
