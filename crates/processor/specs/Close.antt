-- The call `close` (document 01, "One event", "Commands and loads", "Packets"): judged, packets, ended. Assumes nothing.
use Rattle.std.specs.Prelude.{Bool, ◌&&◌, List, [], ◌∷◌, ℕ, eqb, length}
use Rattle.causes.specs.Causes as cause
use Rattle.causes.specs.Checks.{Check, number_by}
use Rattle.wire.specs.Bytes.{zeros}
use Rattle.capacity.specs.declared.Capacity.{Capacity}
use Rattle.capacity.specs.Capacity.{numbers_of}
use Rattle.output.specs.declared.Span.{Span}
use Rattle.output.specs.Ended.{Ended, ended_in}
use Rattle.output.specs.Output.{whole_span, span_bytes, written}
use Rattle.state.specs.declared.State.{State}
use Rattle.end_interval.specs.End.{endable, no_summary, state_ended, tables_ended}
use Rattle.output.specs.declared.Summary.{Summary}
use Rattle.processor.specs.Answer.{if_carried_out}

-- ---- its number

-- the sample packets that a close of this capacity writes, and the length of its output
abbrev pub close_span : Capacity → Span
close_span c = whole_span (numbers_of c)

abbrev pub out_right : Capacity → (out : ℕ) → Bool
out_right c out = eqb out (span_bytes (close_span c))

-- "lent buffer .. of other length, or a state over a limit"
abbrev pub close_checks : (sound : Bool) → List Check
close_checks sound = (sound, cause.buffer_or_state) ∷ []

unfoldable pub close_number : State → (tables staging : ℕ) (slots : List ℕ) (out : ℕ) → ℕ
close_number s tables staging slots out = number_by (close_checks (endable s tables staging slots && out_right s.capacity out))

-- ---- the call

-- what a close hands back: its number and the state; of the interval that it ended its counts, and zeros where it was refused
pub record Closed : Type 0 where
  pub number : ℕ
  pub state : State
  pub summary : Summary

-- what the call hands back and leaves in the lent tables, slots and output
pub record CloseDone : Type 0 where
  pub answer : Closed
  pub tables : List ℕ
  pub slots : List ℕ
  pub out : List ℕ

abbrev pub close_by : (number : ℕ) → State → Ended → (tables staging slots out : List ℕ) → CloseDone
close_by number s e tables staging slots out = record {
  answer = record {
    number = number;
    state = if_carried_out number (state_ended s) s;
    summary = if_carried_out number e.summary no_summary;
  };
  tables = if_carried_out number (tables_ended s tables staging) tables;
  slots = if_carried_out number (zeros (length slots)) slots;
  out = if_carried_out number (written e (close_span s.capacity)) out;
}

unfoldable pub close_done : State → (time : ℕ) (tables staging slots out : List ℕ) → CloseDone
close_done s time tables staging slots out =
    close_by (close_number s (length tables) (length staging) slots (length out)) s (ended_in s time tables slots) tables staging slots out
