-- Records of replay: as minute's, but lines, packages, bytes to read, gather or convert, and slots have their length in front.
-- Assumes nothing.
use Rattle.std.specs.Prelude.{Bool, true, ◌||◌, cond, List, ◌≡◌, ℕ, ◌-◌, ◌*◌, ◌≤◌, eqb, length, Option, Some, None, Result, Ok, Err}
use Rattle.wire.specs.Bytes.{at16}
use Rattle.image.specs.Layout.{image_bytes}
use Rattle.image.specs.Image.{image_good}
use Rattle.stream.specs.Kind.{kind_number}
use Rattle.stream.specs.Record.{LongAs, FoundIn}
use Rattle.stream.specs.declared.kind.BadRecord.{BadRecord}
use Rattle.stream.specs.declared.record.Record.{Record}

abbrev pub is_counted : ℕ → Bool
is_counted kind = eqb kind 3 || eqb kind 5 || eqb kind 6 || eqb kind 8 || eqb kind 10 || eqb kind 11 || eqb kind 22

-- a body of n bytes has the length of its kind: 7 a listing (6, i and time), 9 what was gathered (none), 20 a state (its image),
-- 21 the state shown (none), and minute's
abbrev pub Long : (kind n : ℕ) → Type 0
Long kind n = LongAs kind n × (kind ≡ 7 → n ≡ 6) × (kind ≡ 9 → n ≡ 0) × (kind ≡ 20 → n ≡ image_bytes) × (kind ≡ 21 → n ≡ 0)

-- how many bytes stand before a body: its kind, and a length of two bytes if it has one
abbrev pub head_of : ℕ → ℕ
head_of kind = cond (is_counted kind) 3 1

-- the body of a record stands behind its head, and has the length of its kind, or the one that stands behind the kind byte
abbrev pub BodyLong : Result (Option Record) BadRecord → (waiting : List ℕ) → Type 0
BodyLong (Ok None) waiting = Unit {0}
BodyLong (Ok (Some r)) waiting =
    (head_of (kind_number r.kind) ≡ r.from)
    × Long (kind_number r.kind) (r.to - r.from)
    × (is_counted (kind_number r.kind) ≡ true → r.to - r.from ≡ at16 waiting 1)
BodyLong (Err e) waiting = Unit {0}

-- the record that stands first where the bytes `old` wait, of those that wait now
abbrev pub FirstOf : Result (Option Record) BadRecord → (old waiting : List ℕ) → Type 0
FirstOf r old waiting = FoundIn r old waiting × BodyLong r waiting

-- a body that can be carried out: the bytes of a state are one, and slots come for all of so many, four bytes each. Any other is a
-- bad record
unfoldable pub body_right : (kind : ℕ) (body : List ℕ) (slots : ℕ) → Bool
body_right kind body slots = cond (eqb kind 20) (image_good body) (cond (eqb kind 22) (eqb (length body) (4 * slots)) true)

-- the record's body lies in the bytes that wait
abbrev pub LiesIn : Result (Option Record) BadRecord → (waiting : List ℕ) → Type 0
LiesIn (Ok None) waiting = Unit {0}
LiesIn (Ok (Some r)) waiting = (r.from ≤ r.to) × (r.to ≤ length waiting) × Long (kind_number r.kind) (r.to - r.from)
LiesIn (Err e) waiting = Unit {0}
