-- What is proved of converting (document 02, Point 6). `to_second` and `to_first` are what the two calls do, by their contracts.
-- Assumes nothing.
use Rattle.std.specs.Prelude.{ℕ, ◌<◌, ◌≤◌, ◌≡◌, ◌⊎◌, true, Option, Some, None, List, [], length, take, get_or, set}
use Rattle.causes.specs.Causes.{carried_out, buffer_or_state, body_fault, no_first_code}
use Rattle.causes.specs.Checks.{Lowest}
use Rattle.wire.specs.Lists.{EachBelow}
use Rattle.rate_code.specs.Rate.{least_count, code_valid}
use Rattle.rate_code.specs.Editions.{first_mark, converted_mark}
use Rattle.packet.specs.Layout.{packet_bytes, mark_at, sum_at}
use Rattle.packet.specs.Packet.{summed}
use Rattle.decode.specs.declared.kind.Kind.{Kind}
use Rattle.decode.specs.declared.kind.Kind.TheVariants.{Rate, Sample, Beacon}
use Rattle.decode.specs.Read.{mark_of, zeros_good}
use Rattle.ground.specs.Ground.{Packet, read_of}
use Rattle.converter.specs.Convert.{recoded, rates_exact, convert_checks, Converted, convert_done, to_second, to_first}

-- ---- the bytes

-- "There and back gives the first packet byte for byte"
abbrev pub ThereAndBack : Type 0
ThereAndBack =
    (xs out out' : List ℕ) → EachBelow 256 xs → length out' ≡ packet_bytes → (to_second xs out).number ≡ carried_out
    → to_first (to_second xs out).out out' ≡ record { number = carried_out; out = xs }

-- "A packet marked 1 may go back too": back and there gives the packet as converted, byte for byte if it was marked 2
abbrev pub BackAndThere : Type 0
BackAndThere =
    (xs out out' : List ℕ) → EachBelow 256 xs → length out' ≡ packet_bytes → (to_first xs out).number ≡ carried_out
    → (to_second (to_first xs out).out out' ≡ record { number = carried_out; out = summed (take sum_at (set xs mark_at converted_mark)) })
    × (mark_of xs ≡ converted_mark → (to_second (to_first xs out).out out').out ≡ xs)

-- ---- reading

-- the answer with another mark
abbrev pub with_mark : (mark : ℕ) → Packet → Packet
with_mark mark p =
    record {
      number = p.number;
      kind = p.kind;
      application = p.application;
      sequence = p.sequence;
      time = p.time;
      frame = p.frame;
      mark = mark;
      rates = p.rates;
      settings = p.settings;
      sum = p.sum;
      beacon_rates = p.beacon_rates;
      p = p.p;
    }

-- reading the converted packet gives what reading the packet gave, but for the mark; both ways
abbrev pub ConvertedRead : Type 0
ConvertedRead =
    (wanted : ℕ) (xs out : List ℕ) → wanted ≤ converted_mark → (convert_done wanted xs out).number ≡ carried_out
    → read_of (convert_done wanted xs out).out ≡ with_mark wanted (read_of xs)

-- a beacon packet of the archive, with zeros "at bytes 35-40" (document 02, Point 7), is judged and written as it was with twelve rates
abbrev pub ArchiveConverted : Type 0
ArchiveConverted =
    (wanted : ℕ) (xs : List ℕ) → length xs ≡ packet_bytes → zeros_good 35 6 xs ≡ true
    → (rates_exact wanted 15 xs ≡ rates_exact wanted 12 xs) × (recoded wanted 15 xs ≡ recoded wanted 12 xs)

-- ---- when a packet is converted, and otherwise the number, by what the reader says of it

-- the reader takes the bytes
abbrev pub Taken : List ℕ → Type 0
Taken xs = (read_of xs).number ≡ carried_out

-- as "a rate or beacon packet"
abbrev pub OfRates : List ℕ → Type 0
OfRates xs = ((read_of xs).kind ≡ Some Rate) ⊎ ((read_of xs).kind ≡ Some Beacon)

-- of the first edition; otherwise it is marked 1 or 2
abbrev pub InFirst : List ℕ → Type 0
InFirst xs = (read_of xs).mark ≡ first_mark

-- the rates that it returns: least counts
abbrev pub rates_for : Option Kind → Packet → List ℕ
rates_for (Some Rate) p = p.rates
rates_for (Some Sample) p = []
rates_for (Some Beacon) p = p.beacon_rates
rates_for None p = []

abbrev pub rates_read : List ℕ → List ℕ
rates_read xs = rates_for (read_of xs).kind (read_of xs)

-- some valid first-edition code has the count as its least
abbrev pub HasFirst : ℕ → Type 0
HasFirst n = (c : ℕ) × (code_valid c ≡ true) × (least_count c ≡ n)

-- so of each rate of the packet; of some rate not
abbrev pub EachFirst : List ℕ → Type 0
EachFirst xs = (i : ℕ) → i < length (rates_read xs) → HasFirst (get_or (rates_read xs) i 0)

abbrev pub SomeNoFirst : List ℕ → Type 0
SomeNoFirst xs = (i : ℕ) × (i < length (rates_read xs)) × (HasFirst (get_or (rates_read xs) i 0) → ⊥)

-- a refused call: its number, and `out` as it was
abbrev pub leaves : (out : List ℕ) → (number : ℕ) → Converted
leaves out n = record { number = n; out = out }

-- to the second edition
pub record SecondWhen (xs out : List ℕ) : Type 0 where
  -- "Convert a rate or beacon packet of the first edition to the second"
  pub converted : Taken xs → OfRates xs → InFirst xs → (to_second xs out).number ≡ carried_out
  -- "A sample packet, .."
  pub sample : Taken xs → (read_of xs).kind ≡ Some Sample → to_second xs out ≡ leaves out body_fault
  -- ".. or one already in the edition wanted, gets 13"
  pub already : Taken xs → OfRates xs → (InFirst xs → ⊥) → to_second xs out ≡ leaves out body_fault
  -- what the reader refuses has its number
  pub unread : (Taken xs → ⊥) → to_second xs out ≡ leaves out (read_of xs).number

-- to the first
pub record FirstWhen (xs out : List ℕ) : Type 0 where
  -- ".. and back", and "A packet marked 1 may go back too"
  pub converted : Taken xs → OfRates xs → (InFirst xs → ⊥) → EachFirst xs → (to_first xs out).number ≡ carried_out
  -- "17 when no first-edition code has some rate's least count, after 13"
  pub inexact : Taken xs → OfRates xs → (InFirst xs → ⊥) → SomeNoFirst xs → to_first xs out ≡ leaves out no_first_code
  -- "A sample packet, .."
  pub sample : Taken xs → (read_of xs).kind ≡ Some Sample → to_first xs out ≡ leaves out body_fault
  -- ".. or one already in the edition wanted, gets 13"
  pub already : Taken xs → OfRates xs → InFirst xs → to_first xs out ≡ leaves out body_fault
  -- what the reader refuses has its number
  pub unread : (Taken xs → ⊥) → to_first xs out ≡ leaves out (read_of xs).number

-- of all bytes
abbrev pub ConvertedWhen : Type 0
ConvertedWhen = (xs out : List ℕ) → length out ≡ packet_bytes → SecondWhen xs out × FirstWhen xs out

-- 1, "lent buffer .. of other length": whatever the bytes are
abbrev pub OtherLength : Type 0
OtherLength =
    (xs out : List ℕ) → (length out ≡ packet_bytes → ⊥)
    → (to_second xs out ≡ leaves out buffer_or_state) × (to_first xs out ≡ leaves out buffer_or_state)

-- never 17 on the way there
abbrev pub NeverThere : Type 0
NeverThere = (xs out : List ℕ) → (to_second xs out).number ≡ no_first_code → ⊥

-- "otherwise the lowest number that applies is given"
abbrev pub LowestConverted : Type 0
LowestConverted =
    (xs out : List ℕ)
    → Lowest (convert_checks converted_mark (length out) xs) (to_second xs out).number
    × Lowest (convert_checks first_mark (length out) xs) (to_first xs out).number
