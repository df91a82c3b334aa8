-- One second reading: its number, and the totals with its counts (document 01, "One event" and "Causes and their numbers").
-- Assumes nothing.
use Rattle.std.specs.Prelude.{Bool, List, [], ◌∷◌, ℕ, ◌+◌, ltb, get_or}
use Rattle.causes.specs.Causes as cause
use Rattle.causes.specs.Checks.{Check, number_by}
use Rattle.wire.specs.Pieces.{table}
use Rattle.boxes.specs.Boxes.{total_count}
use Rattle.state.specs.declared.State.{State}
use Rattle.state.specs.Interval.{most_readings}
use Rattle.state.specs.Limits.{within_limits}

-- the state is sound; "reading after 60 readings"
abbrev pub reading_checks : (sound : Bool) (readings : ℕ) → List Check
reading_checks sound readings = (sound, cause.buffer_or_state) ∷ (ltb readings most_readings, cause.interval_full) ∷ []

unfoldable pub reading_number : State → ℕ
reading_number s = number_by (reading_checks (within_limits s) s.interval.readings)

-- "A reading adds eight 16-bit counts to eight totals"
abbrev pub added_totals : (totals counts : List ℕ) → List ℕ
added_totals totals counts = table total_count (λ i. get_or totals i 0 + get_or counts i 0)
