-- The gatherer (document 02, Point 1: "A ground gatherer puts them into a table buffer that nobody else writes"). Assumes nothing.
use Rattle.std.specs.Prelude.{ℕ, ◌*◌, true, false, not, cond, List, eqb, length, get_or, set, replicate}
use Rattle.causes.specs.Causes.{carried_out}
use Rattle.wire.specs.Bytes.{put}
use Rattle.wire.specs.Pieces.{count_of}
use Rattle.listing_packet.specs.Listing.{listing_packets, piece_bytes, place_in, words_in, gather_number}
use Rattle.gatherer.specs.declared.Gathered.{Gathered}

-- a fresh gatherer: none has come
abbrev pub none_gathered : Gathered
none_gathered = record { came = replicate listing_packets false }

-- "it says how many of the 250 addresses are missing"
unfoldable pub missing_of : Gathered → ℕ
missing_of g = count_of listing_packets (λ i. not (get_or g.came i false))

-- packet i has come
abbrev pub with_packet : Gathered → (i : ℕ) → Gathered
with_packet g i = record { came = set g.came i true }

-- the number that the call is answered, and what has come then
pub record Gathering : Type 0 where
  pub number : ℕ
  pub gathered : Gathered

-- what the call hands back and leaves in the lent table buffer
pub record GatherDone : Type 0 where
  pub answer : Gathering
  pub tables : List ℕ

-- an accepted packet's words go to their place; a refused one changes nothing
abbrev pub gather_by : (number : ℕ) → Gathered → (packet tables : List ℕ) → GatherDone
gather_by number g packet tables = record {
  answer = record { number = number; gathered = cond (eqb number carried_out) (with_packet g (place_in packet)) g };
  tables = cond (eqb number carried_out) (put tables (piece_bytes * place_in packet) (words_in packet)) tables;
}

unfoldable pub gather_done : Gathered → (packet tables : List ℕ) → GatherDone
gather_done g packet tables = gather_by (gather_number (length tables) packet) g packet tables
