-- What becomes of one event (document 01, "One event", rules 1 to 5). Assumes nothing.
use Rattle.std.specs.Prelude.{Bool, ◌&&◌, ◌||◌, not, cond, List, ℕ, ◌+◌, ◌<◌, Option, Some, None}
use Rattle.settings.specs.declared.Settings.{Settings}
use Rattle.tables.specs.Tables.{word_at, high_gain, low_gain, time_of_flight, khi, klo, ktof}
use Rattle.sort.specs.declared.event.Event.{Event}
use Rattle.sort.specs.declared.sorting.Outcome.{Outcome}
use Rattle.sort.specs.declared.sorting.Outcome.TheVariants.{Discarded, OutOfBounds, InCell}
use Rattle.sort.specs.Columns.{u_of, mass_column, energy_column, bounded}
use Rattle.sort.specs.Event.{gain_of}
use Rattle.sort.specs.Matrix.{matrix_of, cell_of}

-- rule 1: "No valid stop with Eonly 0, or error set with toferror 0"
abbrev pub discards : Settings → Event → Bool
discards s e = (not e.stop && not s.eonly) || (e.error && not s.toferror)

-- the four table words that an event's columns are made of
pub record Words : Type 0 where
  pub energy : ℕ
  pub k : ℕ
  pub flight : ℕ
  pub ktof : ℕ

-- rule 2: at gain 0 "E and K from the high table and Khi", at gain 1 "low table and Klo"; rule 3: "T is time-of-flight word t"
unfoldable pub event_words : List ℕ → Event → Words
event_words tables e = record {
  energy = cond (gain_of e) (word_at tables (low_gain + e.low)) (word_at tables (high_gain + e.high));
  k = cond (gain_of e) (word_at tables klo) (word_at tables khi);
  flight = word_at tables (time_of_flight + e.t);
  ktof = word_at tables ktof;
}

-- each of the words is below n
abbrev pub WordsBelow : ℕ → Words → Type 0
WordsBelow n w = (w.energy < n) × (w.k < n) × (w.flight < n) × (w.ktof < n)

-- rules 4 and 5: out of bounds where either column is, otherwise the cell
abbrev pub located : (gain : Bool) (mass energy : Option ℕ) (matrix : List ℕ) → Outcome
located gain (Some m) (Some n) matrix = InCell gain (cell_of matrix m n)
located gain (Some m) None matrix = OutOfBounds gain
located gain None c matrix = OutOfBounds gain

-- rule 3: the two columns of the words
unfoldable pub in_matrix : (gain : Bool) (w : Words) (matrix : List ℕ) → Outcome
in_matrix gain w matrix =
    located gain
    (bounded (mass_column (u_of w.energy w.k w.flight w.ktof)))
    (bounded (energy_column w.flight w.ktof))
    matrix

-- rules 1 to 5
unfoldable pub outcome_of : Settings → (tables : List ℕ) → Event → Outcome
outcome_of s tables e = cond (discards s e) Discarded (in_matrix (gain_of e) (event_words tables e) (matrix_of tables))
