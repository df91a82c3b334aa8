-- The call `reading` (document 01, "One event" and "Causes and their numbers"). Assumes nothing.
use Rattle.std.specs.Prelude.{List, ℕ}
use Rattle.state.specs.declared.State.{State}
use Rattle.state.specs.Interval.{with_reading}
use Rattle.state.specs.State.{with_interval}
use Rattle.take_reading.specs.Reading.{reading_number, added_totals}
use Rattle.processor.specs.Answer.{Answer, answer, if_carried_out}

-- what the call hands back; nothing is lent
abbrev pub reading_by : (number : ℕ) → State → List ℕ → Answer
reading_by number s counts =
    answer number (if_carried_out number (with_interval s (with_reading s.interval (added_totals s.interval.totals counts))) s)

unfoldable pub reading_done : State → List ℕ → Answer
reading_done s counts = reading_by (reading_number s) s counts
