-- A record that is no event, carried out (document 01, "The program minute"). Assumes nothing.
use Rattle.std.specs.Prelude.{cond, List, ℕ, eqb}
use Rattle.wire.specs.Bytes.{zeros, at32}
use Rattle.load.specs.Bitmap.{bitmap_bytes}
use Rattle.echo.specs.Echo.{echo_bytes}
use Rattle.state.specs.declared.State.{State}
use Rattle.processor.specs.Answer.{Answer, answer}
use Rattle.processor.specs.Close.{CloseDone, close_done}
use Rattle.processor.specs.Line.{line_done}
use Rattle.take_line.specs.Line.{LineDone}
use Rattle.processor.specs.Reading.{reading_done}
use Rattle.stream.specs.Record.{counts_in}
use Rattle.stream.specs.Start.{out_bytes}
use Rattle.minute_calls.specs.Line.{to_first_zero}

-- a number and a state, and what the tables and the slots hold then
pub record Carried : Type 0 where
  pub answer : Answer
  pub tables : List ℕ
  pub slots : List ℕ

-- a line: its sum is not printed
abbrev pub line_to : LineDone → Answer
line_to d = answer d.answer.number d.answer.state

-- a close: its packets go to a buffer that is not printed
abbrev pub closed_to : CloseDone → Carried
closed_to d = record { answer = answer d.answer.number d.answer.state; tables = d.tables; slots = d.slots }

-- "2 reading (16), 3 line (80, zero-filled), 4 close (4, time)". No package comes, so no staged byte is bad
unfoldable pub kind_done : (kind : ℕ) → State → (tables staging slots body : List ℕ) → Carried
kind_done kind s tables staging slots body =
    cond (eqb kind 2) (record { answer = reading_done s (counts_in body); tables = tables; slots = slots })
    (cond (eqb kind 4) (closed_to (close_done s (at32 body 0) tables staging slots (zeros out_bytes)))
    (record { answer = line_to (line_done s (to_first_zero body) staging (zeros bitmap_bytes) (zeros echo_bytes)); tables = tables; slots = slots }))
