-- One step of the program: what it makes of the record that was found. Assumes nothing.
use Rattle.std.specs.Prelude.{true, false, cond, List, ◌≡◌, ℕ, length, Option, Some, None, Result, Ok, Err}
use Rattle.state.specs.declared.State.{State}
use Rattle.stream.specs.Kind.{kind_number}
use Rattle.stream.specs.Record.{body_in}
use Rattle.stream.specs.Run.{Used}
use Rattle.stream.specs.declared.kind.BadRecord.{BadRecord}
use Rattle.stream.specs.declared.record.Record.{Record}
use Rattle.gatherer.specs.GatherTheorems.{Gatherer}
use Rattle.replay_calls.specs.Record.{body_right}
use Rattle.replay_calls.specs.Calls.{kind_done, Left}
use Rattle.replay_calls.specs.Ground.{ground_out}

-- the end and a bad record change nothing and are the last
abbrev pub Same : State → (tables staging bitmap slots echo : List ℕ) → Used → Used
    → State → (tables' staging' bitmap' slots' echo' : List ℕ) → Type 0
Same s tables staging bitmap slots echo last r s' tables' staging' bitmap' slots' echo' =
    (s' ≡ s) × (tables' ≡ tables) × (staging' ≡ staging) × (bitmap' ≡ bitmap) × (slots' ≡ slots) × (echo' ≡ echo) × (r ≡ last)

-- from state s, tables, staging, bitmap, slots and echo to those of the step: any other record is carried out, and the program goes
-- on behind it, unless its body is a wrong one, which is a bad record too
abbrev pub Stepped : Result (Option Record) BadRecord → State → (tables staging bitmap slots echo waiting : List ℕ) → Used
    → State → (tables' staging' bitmap' slots' echo' : List ℕ) → Type 0
Stepped (Ok None) s tables staging bitmap slots echo waiting r s' tables' staging' bitmap' slots' echo' =
    Same s tables staging bitmap slots echo (Ok None) r s' tables' staging' bitmap' slots' echo'
Stepped (Ok (Some found)) s tables staging bitmap slots echo waiting r s' tables' staging' bitmap' slots' echo' =
    let kind = kind_number found.kind in
    let body = body_in found waiting in
    (body_right kind body (length slots) ≡ true →
    Left (kind_done kind s tables staging bitmap slots echo body) s' tables' staging' bitmap' slots' echo'
    × (r ≡ Ok (Some found.to)))
    × (body_right kind body (length slots) ≡ false →
    Same s tables staging bitmap slots echo (Err (record {})) r s' tables' staging' bitmap' slots' echo')
Stepped (Err e) s tables staging bitmap slots echo waiting r s' tables' staging' bitmap' slots' echo' =
    Same s tables staging bitmap slots echo (Err e) r s' tables' staging' bitmap' slots' echo'

-- what is gathered after the step, from what was gathered before it: the end and a bad record change nothing here either
abbrev pub ground_stepped : Result (Option Record) BadRecord → Gatherer → (waiting : List ℕ) (slots : ℕ) → Gatherer
ground_stepped (Ok None) g waiting slots = g
ground_stepped (Ok (Some found)) g waiting slots =
    let kind = kind_number found.kind in
    let body = body_in found waiting in
    cond (body_right kind body slots) (ground_out kind g body) g
ground_stepped (Err e) g waiting slots = g
