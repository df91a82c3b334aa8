-- Records and their bodies (document 01, "The program minute"). Assumes nothing.
use Rattle.std.specs.Prelude.{cond, List, [], ◌∷◌, ◌≡◌, ℕ, ◌-◌, ◌≤◌, ◌<◌, leb, get_or, length, take, drop, Option, Some, None, Result, Ok, Err}
use Rattle.wire.specs.Bits.{is_set}
use Rattle.wire.specs.Bytes.{at16}
use Rattle.sort.specs.declared.event.Event.{Event}
use Rattle.state.specs.declared.State.{State}
use Rattle.causes.specs.Causes.{field_range}
use Rattle.processor.specs.Answer.{answer}
use Rattle.processor.specs.Event.{EventDone, event_done}
use Rattle.buffered.specs.Input.{Begins}
use Rattle.stream.specs.declared.kind.BadRecord.{BadRecord}
use Rattle.stream.specs.declared.record.Record.{Record}
use Rattle.stream.specs.Kind.{kind_number}

-- "1 event (7 bytes ..), 2 reading (16), .. 4 close (4, time)": a body of n bytes has the length of its kind
abbrev pub LongAs : (kind n : ℕ) → Type 0
LongAs kind n = (kind ≡ 1 → n ≡ 7) × (kind ≡ 2 → n ≡ 16) × (kind ≡ 4 → n ≡ 4)

-- its body, where these bytes wait
abbrev pub body_in : Record → (waiting : List ℕ) → List ℕ
body_in r waiting = take (r.to - r.from) (drop r.from waiting)

-- what was found where the bytes `old` waited, of those that wait now. The end: none waited. A record: its kind stands first, its
-- body behind that, the rest of the input behind the body, and what waited begins there
abbrev pub FoundIn : Result (Option Record) BadRecord → (old waiting : List ℕ) → Type 0
FoundIn (Ok None) old waiting = old ≡ []
FoundIn (Ok (Some r)) old waiting =
    (0 < r.from)
    × (r.from ≤ r.to)
    × (r.to ≤ length waiting)
    × (get_or waiting 0 0 ≡ kind_number r.kind)
    × Begins old waiting
FoundIn (Err e) old waiting = Unit {0}

-- a record that was found has this kind, a body of n bytes, and so many bytes in front of its body
abbrev pub IsOf : (kind head n : ℕ) → Result (Option Record) BadRecord → Type 0
IsOf k head n (Ok None) = Unit {0}
IsOf k head n (Ok (Some r)) = (kind_number r.kind ≡ k) × (head ≡ r.from) × (r.to - r.from ≡ n)
IsOf k head n (Err e) = Unit {0}

-- ---- an event's body: "t, high, low, flags FLG0 1, FLG1 2, error 4, valid stop 8"

abbrev pub event_flags : List ℕ → ℕ
event_flags body = get_or body 6 0

unfoldable pub event_of : List ℕ → Event
event_of body = record {
  t = at16 body 0;
  high = at16 body 2;
  low = at16 body 4;
  flg0 = is_set (event_flags body) 1;
  flg1 = is_set (event_flags body) 2;
  error = is_set (event_flags body) 4;
  stop = is_set (event_flags body) 8;
}

-- "a flag byte over 15 is refused by 2"; any other event is the call's
unfoldable pub record_done : State → (tables slots body : List ℕ) → EventDone
record_done s tables slots body =
    cond (leb (event_flags body) 15) (event_done s tables slots (event_of body)) (record { answer = answer field_range s; slots = slots })

-- ---- a reading's body: eight 16-bit counts

abbrev pub counts_in : List ℕ → List ℕ
counts_in body =
    at16 body 0
    ∷ at16 body 2
    ∷ at16 body 4
    ∷ at16 body 6
    ∷ at16 body 8
    ∷ at16 body 10
    ∷ at16 body 12
    ∷ at16 body 14
    ∷ []
