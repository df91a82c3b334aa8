-- A record of replay, carried out aboard: the call of its kind. Assumes nothing.
use Rattle.std.specs.Prelude.{cond, List, ◌≡◌, ℕ, eqb, length}
use Rattle.wire.specs.Bytes.{zeros, at32}
use Rattle.state.specs.declared.State.{State}
use Rattle.image.specs.Image.{numbers_at, state_of}
use Rattle.processor.specs.Close.{close_done}
use Rattle.processor.specs.Line.{line_done}
use Rattle.processor.specs.Package.{package_done}
use Rattle.processor.specs.Reading.{reading_done}
use Rattle.stream.specs.Record.{counts_in, record_done}
use Rattle.stream.specs.Start.{out_bytes}

-- a state, and what each lent buffer holds then
pub record Carried : Type 0 where
  pub state : State
  pub tables : List ℕ
  pub staging : List ℕ
  pub bitmap : List ℕ
  pub slots : List ℕ
  pub echo : List ℕ

abbrev pub carried : State → (tables staging bitmap slots echo : List ℕ) → Carried
carried s tables staging bitmap slots echo =
    record { state = s; tables = tables; staging = staging; bitmap = bitmap; slots = slots; echo = echo }

-- "1 event .., 2 reading .., 3 line .., 4 close", and 5 a package; a close's packets go to a buffer of zeros. 20 is a state and 22 all
-- slots, in place of those there are. A listing, a state shown and the records of the ground change nothing
unfoldable pub kind_done : (kind : ℕ) → State → (tables staging bitmap slots echo body : List ℕ) → Carried
kind_done kind s tables staging bitmap slots echo body =
    let event = record_done s tables slots body in
    let line = line_done s body staging bitmap echo in
    let close = close_done s (at32 body 0) tables staging slots (zeros out_bytes) in
    let loaded = package_done s body staging bitmap echo in
    cond (eqb kind 1) (carried event.answer.state tables staging bitmap event.slots echo)
    (cond (eqb kind 2) (carried (reading_done s (counts_in body)).state tables staging bitmap slots echo)
    (cond (eqb kind 3) (carried line.answer.state tables staging bitmap slots line.echo)
    (cond (eqb kind 4) (carried close.answer.state close.tables staging bitmap close.slots echo)
    (cond (eqb kind 5) (carried loaded.answer.state tables loaded.staging loaded.bitmap slots loaded.echo)
    (cond (eqb kind 20) (carried (state_of body) tables staging bitmap slots echo)
    (cond (eqb kind 22) (carried s tables staging bitmap (numbers_at body 0 (length slots)) echo)
    (carried s tables staging bitmap slots echo)))))))

-- this state and these buffers are those that were carried
abbrev pub Left : Carried → State → (tables staging bitmap slots echo : List ℕ) → Type 0
Left done s tables staging bitmap slots echo =
    (s ≡ done.state)
    × (tables ≡ done.tables)
    × (staging ≡ done.staging)
    × (bitmap ≡ done.bitmap)
    × (slots ≡ done.slots)
    × (echo ≡ done.echo)
