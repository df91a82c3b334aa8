-- The call `listing` (document 02, Point 1: "A call writes packet i .. Listing changes nothing aboard"). Assumes nothing.
use Rattle.std.specs.Prelude.{Bool, ◌&&◌, List, [], ◌∷◌, ℕ, eqb, ltb, length}
use Rattle.causes.specs.Causes as cause
use Rattle.causes.specs.Checks.{Check, number_by}
use Rattle.tables.specs.Tables.{table_bytes}
use Rattle.packet.specs.Packet.{packet_bytes}
use Rattle.listing_packet.specs.Listing.{listing_packets, listing_packet}
use Rattle.state.specs.declared.State.{State}
use Rattle.state.specs.Limits.{within_limits}
use Rattle.processor.specs.Answer.{if_carried_out}

-- no "lent buffer .. of other length", from the lengths of the tables and the output
abbrev pub listing_lent : (tables out : ℕ) → Bool
listing_lent tables out = eqb tables table_bytes && eqb out packet_bytes

-- what is lent, and the state, are sound; "14 when i .. is none of these"
abbrev pub listing_checks : (sound : Bool) (i : ℕ) → List Check
listing_checks sound i = (sound, cause.buffer_or_state) ∷ (ltb i listing_packets, cause.not_listed) ∷ []

unfoldable pub listing_number : State → (i tables out : ℕ) → ℕ
listing_number s i tables out = number_by (listing_checks (within_limits s && listing_lent tables out) i)

-- what the call hands back and leaves in the lent output; it hands back no state
pub record ListingDone : Type 0 where
  pub number : ℕ
  pub out : List ℕ

abbrev pub listing_by : (number : ℕ) → State → (i time : ℕ) (tables out : List ℕ) → ListingDone
listing_by number s i time tables out = record {
  number = number;
  out = if_carried_out number (listing_packet s.frame time i tables) out;
}

unfoldable pub listing_done : State → (i time : ℕ) (tables out : List ℕ) → ListingDone
listing_done s i time tables out = listing_by (listing_number s i (length tables) (length out)) s i time tables out
