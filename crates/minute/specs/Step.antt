-- One step of the program: what it makes of the record that was found. Assumes nothing.
use Rattle.std.specs.Prelude.{List, ◌≡◌, ℕ, length, Option, Some, None, Result, Ok, Err}
use Rattle.state.specs.declared.State.{State}
use Rattle.stream.specs.Kind.{kind_number}
use Rattle.stream.specs.Record.{body_in}
use Rattle.stream.specs.Run.{Used}
use Rattle.stream.specs.declared.kind.BadRecord.{BadRecord}
use Rattle.stream.specs.declared.record.Record.{Record}
use Rattle.minute_calls.specs.Calls.{kind_done}
use Rattle.minute_calls.specs.Events.{EventsRun, NoEvent}

-- from state s, tables and slots to those of the step. The end and a bad record change nothing and are the last. An event
-- is carried out with all events behind it; any other record alone, and the program goes on behind it
abbrev pub Stepped : Result (Option Record) BadRecord → State → (tables staging slots waiting : List ℕ) → Used
    → State → (tables' slots' : List ℕ) → Type 0
Stepped (Ok None) s tables staging slots waiting r s' tables' slots' = (s' ≡ s) × (tables' ≡ tables) × (slots' ≡ slots) × (r ≡ Ok None)
Stepped (Ok (Some found)) s tables staging slots waiting r s' tables' slots' =
    (kind_number found.kind ≡ 1 →
    (used : ℕ)
    × (EventsRun s tables slots waiting used s' slots'
    × NoEvent used (length waiting) waiting
    × (tables' ≡ tables)
    × (r ≡ Ok (Some used))))
    × ((kind_number found.kind ≡ 1 → ⊥) →
    (s' ≡ (kind_done (kind_number found.kind) s tables staging slots (body_in found waiting)).answer.state)
    × (tables' ≡ (kind_done (kind_number found.kind) s tables staging slots (body_in found waiting)).tables)
    × (slots' ≡ (kind_done (kind_number found.kind) s tables staging slots (body_in found waiting)).slots)
    × (r ≡ Ok (Some found.to)))
Stepped (Err e) s tables staging slots waiting r s' tables' slots' = (s' ≡ s) × (tables' ≡ tables) × (slots' ≡ slots) × (r ≡ Err e)
