-- What is proved of the gatherer (document 02, Point 1). `gather_done` is what its call does, `listing_packet` what the call `listing`
-- writes, by their contracts. Assumes nothing.
use Rattle.std.specs.Prelude.{ℕ, ◌+◌, ◌*◌, ◌<◌, ◌≡◌, ◌⊎◌, Bool, true, false, not, cond, ◌&&◌, ◌||◌, List, [], ◌∷◌, eqb, length}
use Rattle.causes.specs.Causes.{carried_out, no_header, packet_sum, not_listed}
use Rattle.causes.specs.Checks.{LowestBy}
use Rattle.wire.specs.Lists.{EachBelow}
use Rattle.wire.specs.Pieces.{count_of}
use Rattle.tables.specs.Tables.{table_bytes}
use Rattle.packet.specs.Layout.{packet_bytes}
use Rattle.decode.specs.Read.{application_of, sum_good}
use Rattle.listing_packet.specs.Listing.{listing_application, listing_packets, address_of, address_in, listing_packet}
use Rattle.listing_packet.specs.Listing.{gather_checks, gather_number}
use Rattle.gatherer.specs.declared.Gathered.{Gathered}
use Rattle.gatherer.specs.Gather.{none_gathered, missing_of, gather_done}
use Rattle.decode.specs.Damage.{OneByteOff}

-- ---- lists of byte strings, given to a gatherer one after the other

-- a gatherer and its table buffer
pub record Gatherer : Type 0 where
  pub gathered : Gathered
  pub tables : List ℕ

abbrev pub given : Gatherer → (packet : List ℕ) → Gatherer
given g p = record {
  gathered = (gather_done g.gathered p g.tables).answer.gathered;
  tables = (gather_done g.gathered p g.tables).tables;
}

unfoldable pub given_all : Gatherer → (packets : List (List ℕ)) → Gatherer
given_all g [] = g
given_all g (p ∷ ps) = given_all (given g p) ps

-- "a fresh gatherer", with whatever its buffer holds
abbrev pub fresh_gatherer : (buffer : List ℕ) → Gatherer
fresh_gatherer buffer = record { gathered = none_gathered; tables = buffer }

-- ---- the table

-- a listing packet of this table, of any frame and time
pub record ListingOf (tables : List ℕ) (i : ℕ) (packet : List ℕ) : Type 0 where
  pub frame : ℕ
  pub time : ℕ
  pub packet_is : packet ≡ listing_packet frame time i tables

-- each packet of the list that is answered 0 is one of this table
abbrev pub NoneOther : (tables : List ℕ) → (packets : List (List ℕ)) → Type 0
NoneOther tables [] = Unit {0}
NoneOther tables (p ∷ ps) =
    (gather_number table_bytes p ≡ carried_out → (i : ℕ) × (i < listing_packets) × ListingOf tables i p) × NoneOther tables ps

-- packet i of this table is in the list
abbrev pub Among : (tables : List ℕ) → (i : ℕ) → (packets : List (List ℕ)) → Type 0
Among tables i [] = ⊥
Among tables i (p ∷ ps) = ListingOf tables i p ⊎ Among tables i ps

-- "Once a fresh gatherer was given all 250 of one table and none of another, in whatever order and with repeats, the buffer equals
-- that table"
abbrev pub TableGathered : Type 0
TableGathered =
    (tables buffer : List ℕ) (packets : List (List ℕ)) → length tables ≡ table_bytes → length buffer ≡ table_bytes
    → NoneOther tables packets → ((i : ℕ) → i < listing_packets → Among tables i packets)
    → let g = given_all (fresh_gatherer buffer) packets in (g.tables ≡ tables) × (missing_of g.gathered ≡ 0)

-- 0 missing says as much: if only packets of this table were taken, of whatever frames and times, in whatever order and with repeats,
-- refused ones between them, and none is missing, the buffer equals the table
abbrev pub NoneMissing : Type 0
NoneMissing =
    (tables buffer : List ℕ) (packets : List (List ℕ)) → length tables ≡ table_bytes → length buffer ≡ table_bytes
    → NoneOther tables packets → let g = given_all (fresh_gatherer buffer) packets in missing_of g.gathered ≡ 0 → g.tables ≡ tables

-- ---- what is missing

-- some packet of the list that is answered 0, by a gatherer with a buffer of n bytes, has the address of packet i
unfoldable pub has_come : (n i : ℕ) (packets : List (List ℕ)) → Bool
has_come n i [] = false
has_come n i (p ∷ ps) = (eqb (gather_number n p) carried_out && eqb (address_in p) (address_of i)) || has_come n i ps

-- "until then it says how many of the 250 addresses are missing"
abbrev pub MissingCounted : Type 0
MissingCounted =
    (buffer : List ℕ) (packets : List (List ℕ))
    → missing_of (given_all (fresh_gatherer buffer) packets).gathered
    ≡ count_of listing_packets (λ i. not (has_come (length buffer) i packets))

-- ---- one damaged byte

-- of any 272 bytes with a right sum, whatever they are, one byte off is refused, with 11 or with 12
abbrev pub DamageNotGathered : Type 0
DamageNotGathered =
    (xs ys : List ℕ) → length xs ≡ packet_bytes → EachBelow 256 xs → sum_good xs ≡ true → OneByteOff xs ys
    → (gather_number table_bytes ys ≡ no_header) ⊎ (gather_number table_bytes ys ≡ packet_sum)

-- so of every listing packet that is written
abbrev pub ListingDamageRefused : Type 0
ListingDamageRefused =
    (frame time i : ℕ) (tables ys : List ℕ) → frame < 65536 → time < 4294967296 → i < listing_packets → length tables ≡ table_bytes
    → EachBelow 256 tables → OneByteOff (listing_packet frame time i tables) ys
    → (gather_number table_bytes ys ≡ no_header) ⊎ (gather_number table_bytes ys ≡ packet_sum)

-- ---- the number

-- "another application number gets 11": any bytes, and nothing changes
abbrev pub OtherNotGathered : Type 0
OtherNotGathered =
    (g : Gathered) (packet tables : List ℕ) → length tables ≡ table_bytes → (application_of packet ≡ listing_application → ⊥)
    → gather_done g packet tables ≡ record { answer = record { number = no_header; gathered = g }; tables = tables }

-- where a number stands in their order: "14 .., after 12 and before 13"
abbrev pub gather_place : (number : ℕ) → ℕ
gather_place number = cond (eqb number not_listed) (2 * packet_sum + 1) (2 * number)

-- "otherwise the lowest number that applies is given", in that order
abbrev pub LowestGathered : Type 0
LowestGathered =
    (g : Gathered) (packet tables : List ℕ)
    → LowestBy gather_place (gather_checks (length tables) packet) (gather_done g packet tables).answer.number
