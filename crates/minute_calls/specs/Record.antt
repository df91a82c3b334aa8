-- Records of minute (document 01, "The program minute"). Assumes nothing.
use Rattle.std.specs.Prelude.{List, ◌≡◌, ℕ, ◌-◌, ◌≤◌, ◌<◌, length, Option, Some, None, Result, Ok, Err}
use Rattle.stream.specs.Kind.{kind_number}
use Rattle.stream.specs.Record.{LongAs, FoundIn}
use Rattle.stream.specs.declared.kind.BadRecord.{BadRecord}
use Rattle.stream.specs.declared.record.Record.{Record}

-- "3 line (80, zero-filled)", and the others
abbrev pub Long : (kind n : ℕ) → Type 0
Long kind n = LongAs kind n × (kind ≡ 3 → n ≡ 80)

-- the body of a record stands right behind its kind, and has the length of its kind
abbrev pub BodyLong : Result (Option Record) BadRecord → Type 0
BodyLong (Ok None) = Unit {0}
BodyLong (Ok (Some r)) = (1 ≡ r.from) × Long (kind_number r.kind) (r.to - r.from)
BodyLong (Err e) = Unit {0}

-- the record that stands first where the bytes `old` wait, of those that wait now
abbrev pub FirstOf : Result (Option Record) BadRecord → (old waiting : List ℕ) → Type 0
FirstOf r old waiting = FoundIn r old waiting × BodyLong r

-- the record lies in the bytes that wait
abbrev pub LiesIn : Result (Option Record) BadRecord → (waiting : List ℕ) → Type 0
LiesIn (Ok None) waiting = Unit {0}
LiesIn (Ok (Some r)) waiting =
    (0 < r.from) × (r.from ≤ r.to) × (r.to ≤ length waiting) × Long (kind_number r.kind) (r.to - r.from)
LiesIn (Err e) waiting = Unit {0}
