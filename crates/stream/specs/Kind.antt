-- The kinds of records by their numbers (document 01, "The program minute" and what docs/DECISIONS.md says of replay). Assumes nothing.
use Rattle.std.specs.Prelude.{ℕ, ◌≡◌, Result, MatchResult}
use Rattle.stream.specs.declared.kind.BadRecord.{BadRecord}
use Rattle.stream.specs.declared.kind.Kind.{Kind}
use Rattle.stream.specs.declared.kind.Kind.TheVariants.{
  Event,
  Reading,
  Line,
  Close,
  Package,
  Packet,
  Listing,
  Gather,
  Gathered,
  ToSecond,
  ToFirst,
  State,
  Show,
  Slots,
}

-- "1 event .., 2 reading .., 3 line .., 4 close", and those of replay
abbrev pub kind_number : Kind → ℕ
kind_number Event = 1
kind_number Reading = 2
kind_number Line = 3
kind_number Close = 4
kind_number Package = 5
kind_number Packet = 6
kind_number Listing = 7
kind_number Gather = 8
kind_number Gathered = 9
kind_number ToSecond = 10
kind_number ToFirst = 11
kind_number State = 20
kind_number Show = 21
kind_number Slots = 22

-- a byte is the number of the kind that is read from it, and one of no kind is the number of none
abbrev pub Decodes : ℕ → Result Kind BadRecord → Type 0
Decodes byte r = MatchResult r (λ k. kind_number k ≡ byte) (λ _. (k : Kind) → kind_number k ≡ byte → ⊥)
