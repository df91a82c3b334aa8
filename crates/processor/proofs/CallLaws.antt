-- What a line, a close and a listing that are carried out have passed, check by check. Assumes nothing.
use Rattle.std.proofs.Common.{◌≡◌, refl, Bool, true, ◌&&◌, List, ℕ, ◌<◌, eqb-true, ltb-true, length}
use Rattle.causes.specs.Checks.{number_by}
use Rattle.causes.proofs.CheckLaws.{all_passed}
use Rattle.wire.proofs.Lists.{and_left, and_split}
use Rattle.tables.specs.Tables.{table_bytes}
use Rattle.packet.specs.Layout.{packet_bytes}
use Rattle.listing_packet.specs.Listing.{listing_packets}
use Rattle.output.specs.Output.{span_bytes}
use Rattle.state.specs.declared.State.{State}
use Rattle.state.specs.Limits.{within_limits}
use Rattle.take_line.specs.Line.{line_lent, line_checks, state_checks, line_number}
use Rattle.end_interval.specs.End.{endable}
use Rattle.end_interval.proofs.EndLaws.{RightLent, end_passed}
use Rattle.processor.specs.Close.{close_span, out_right, close_checks, close_number}
use Rattle.processor.specs.Listing.{listing_lent, listing_checks, listing_number}

-- ---- a line

module _ (s : State) (line staging bitmap : List ℕ) (echo : ℕ) where
  -- what is judged before its command
  abbrev pub line_sound : Bool
  line_sound = within_limits s && line_lent (length staging) (length bitmap) echo

  -- a line that is accepted passes each check
  pub record LineAccepted : Type 0 where
    pub limits : within_limits s ≡ true
    pub accepts : number_by (state_checks s line staging bitmap) ≡ 0

  pub line_accepted : line_number s line staging bitmap echo ≡ 0 → LineAccepted
  unfolding line_number
  line_accepted h =
      let p = all_passed (line_checks line_sound line (state_checks s line staging bitmap)) refl h in
      record { limits = and_left _ _ p.0; accepts = rw (p.0, p.1.0) at h }

-- ---- a close

pub record CloseAccepted (s : State) (tables staging : ℕ) (slots : List ℕ) (out : ℕ) : Type 0 where
  pub can_end : endable s tables staging slots ≡ true
  pub limits : within_limits s ≡ true
  pub lent : RightLent s.capacity tables staging slots
  pub out_is : out ≡ span_bytes (close_span s.capacity)

pub close_right : (s : State) (tables staging : ℕ) (slots : List ℕ) (out : ℕ)
    → (endable s tables staging slots && out_right s.capacity out) ≡ true → CloseAccepted s tables staging slots out
close_right s tables staging slots out h =
    let q = and_split _ _ h in
    let e = end_passed s tables staging slots q.0 in
    record { can_end = q.0; limits = e.0; lent = e.1; out_is = eqb-true _ _ q.1 }

pub close_accepted : (s : State) (tables staging : ℕ) (slots : List ℕ) (out : ℕ) → close_number s tables staging slots out ≡ 0
    → CloseAccepted s tables staging slots out
unfolding close_number
close_accepted s tables staging slots out h =
    close_right s tables staging slots out
    (all_passed (close_checks (endable s tables staging slots && out_right s.capacity out)) refl h).0

-- ---- a listing

pub record ListingAccepted (s : State) (i tables out : ℕ) : Type 0 where
  pub limits : within_limits s ≡ true
  pub tables_are : tables ≡ table_bytes
  pub out_is : out ≡ packet_bytes
  pub listed : i < listing_packets

pub listing_accepted : (s : State) (i tables out : ℕ) → listing_number s i tables out ≡ 0 → ListingAccepted s i tables out
unfolding listing_number
listing_accepted s i tables out h =
    let p = all_passed (listing_checks (within_limits s && listing_lent tables out) i) refl h in
    let a = and_split _ _ p.0 in
    let b = and_split _ _ a.1 in
    record {
      limits = a.0;
      tables_are = eqb-true _ _ b.0;
      out_is = eqb-true _ _ b.1;
      listed = ltb-true _ _ p.1.0;
    }
