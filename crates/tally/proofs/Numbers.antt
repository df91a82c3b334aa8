-- The number of a call is the tally's, whatever is lent; and what a call that is carried out has passed. Assumes nothing.
use Rattle.std.proofs.Common.{◌≡◌, refl, ap, Bool, true, not, List, ℕ, ◌<◌, eqb-true, ltb-true, length}
use Rattle.causes.proofs.CheckLaws.{all_passed}
use Rattle.wire.proofs.Lists.{and_left, and_split}
use Rattle.wire.proofs.Pieces.{each_same}
use Rattle.tables.specs.Tables.{table_bytes}
use Rattle.sort.specs.declared.event.Event.{Event}
use Rattle.sort.specs.Event.{in_range}
use Rattle.load.specs.Bitmap.{none_bad}
use Rattle.load.specs.Staging.{staging_bytes}
use Rattle.listing_packet.specs.Listing.{listing_packets}
use Rattle.command_list.proofs.CommandListLaws.{waiting_with}
use Rattle.take_event.specs.Event.{event_number}
use Rattle.take_reading.specs.Reading.{reading_number}
use Rattle.take_line.specs.Line.{line_number}
use Rattle.take_line.proofs.LineLaws.{Accepts, command_accepts}
use Rattle.take_package.specs.Package.{package_lent, is_staged, package_call_number}
use Rattle.take_package.proofs.PackageLaws.{Passed, RightLengths, staged_passed, package_lent_lem}
use Rattle.end_interval.proofs.EndLaws.{end_lent_lem}
use Rattle.processor.specs.Event.{event_done}
use Rattle.processor.specs.Line.{line_done}
use Rattle.processor.specs.Package.{package_done}
use Rattle.processor.specs.Close.{close_checks, close_number, close_done}
use Rattle.processor.specs.Listing.{listing_lent, listing_checks, listing_number, listing_done}
use Rattle.tally.specs.World.{Lent, own, other, found, Lending, all_own, lend}
use Rattle.tally.specs.Calls.{event_in, line_in, package_in, close_in, listing_in}
use Rattle.tally.specs.Tally.{Tally, selected, load_waits_for, full_for, line_for, good_for, sum_for}
use Rattle.tally.specs.Tally.{event_checks_for, line_checks_for, close_sound_for}
use Rattle.tally.specs.Tally.{event_number_for, reading_number_for, line_number_for, package_number_for, close_number_for, listing_number_for}
use Rattle.tally.specs.View.{view_state, view}
use Rattle.tally.proofs.Invariant.{Sizes, Inv}

module _ {z : Sizes} (t : Tally) (v : Inv z t) (l : Lending) where
  pub event_number_lem : (e : Event) → (event_in (lend l (view t)) e).answer.number ≡ event_number_for t l e
  unfolding view event_done event_number event_number_for
  event_number_lem e = rw v.limits

  pub reading_number_lem : reading_number (view_state t) ≡ reading_number_for t
  unfolding reading_number reading_number_for
  reading_number_lem = rw v.limits

  -- the own bitmap tells what the tally keeps
  good_is : (m : Lent) → none_bad (found m t.bitmap) t.addresses.reach ≡ good_for t m
  good_is own = each_same t.addresses.reach _ _ (λ i h. ap not (v.staged i h).1)
  good_is (other x) = refl

  pub line_number_lem : (bytes echo : List ℕ)
      → (line_in (lend l (view t)) bytes echo).answer.number ≡ line_number_for t l bytes echo
  unfolding view line_done line_number line_number_for
  line_number_lem bytes echo = rw (v.limits, waiting_with t.commands.accepted t.commands.waiting, good_is l.bitmap)

  pub package_number_lem : (bytes echo : List ℕ)
      → (package_in (lend l (view t)) bytes echo).answer.number ≡ package_number_for t l bytes echo
  unfolding view package_done package_call_number package_number_for
  package_number_lem bytes echo = rw (v.limits, waiting_with t.commands.accepted t.commands.waiting)

  pub close_number_lem : (time : ℕ) (out : List ℕ)
      → (close_in (lend l (view t)) time out).answer.number ≡ close_number_for t l out
  unfolding view close_done close_number close_number_for
  close_number_lem time out = rw v.limits

  pub listing_number_lem : (i time : ℕ) (out : List ℕ) → (listing_in (lend l (view t)) i time out).number ≡ listing_number_for t l i out
  unfolding view listing_done listing_number listing_number_for
  listing_number_lem i time out = rw v.limits

-- ---- what is passed, where the own buffers are lent

pub event_range : (t : Tally) (e : Event) → event_number_for t all_own e ≡ 0 → in_range e ≡ true
unfolding event_number_for
event_range t e h = (all_passed (event_checks_for t all_own e) refl h).1.0

-- a line that is accepted passes its command's checks
pub line_accepted : (t : Tally) (bytes echo : List ℕ) → line_number_for t all_own bytes echo ≡ 0
    → Accepts (load_waits_for t) (full_for t) (good_for t own) (sum_for t own) (line_for t bytes)
unfolding line_number_for
line_accepted t bytes echo h =
    let p = all_passed (line_checks_for t all_own bytes echo) refl h in
    command_accepts (load_waits_for t) (full_for t) (good_for t own) (sum_for t own) (line_for t bytes) (rw (p.0, p.1.0) at h)

-- a package that is staged finds no load waiting and staging and bitmap of their lengths, and its number tells whether its sum is right
pub record Stages (t : Tally) (bytes echo : List ℕ) (n : ℕ) : Type 0 where
  pub lengths : RightLengths (length t.staging) (length t.bitmap) (length echo)
  pub passed : Passed (package_lent (length t.staging) (length t.bitmap) (length echo)) (load_waits_for t) bytes t.addresses.next n

pub package_passed : (t : Tally) (bytes echo : List ℕ) → is_staged (package_number_for t all_own bytes echo) ≡ true
    → Stages t bytes echo (package_number_for t all_own bytes echo)
unfolding package_number_for
package_passed t bytes echo h =
    let sound : Bool = package_lent (length t.staging) (length t.bitmap) (length echo) in
    let k = staged_passed sound (load_waits_for t) bytes t.addresses.next h in
    record { lengths = package_lent_lem (length t.staging) (length t.bitmap) (length echo) k.is_sound; passed = k }

-- a close finds tables and staging of their lengths
pub close_finds : (t : Tally) (out : List ℕ) → close_number_for t all_own out ≡ 0
    → (length t.tables ≡ table_bytes) × (length t.staging ≡ staging_bytes)
unfolding close_number_for
close_finds t out h =
    let p = all_passed (close_checks (close_sound_for t all_own out)) refl h in
    let q = end_lent_lem t.capacity _ _ (selected t).slots (and_left _ _ p.0) in
    (q.tables_are, q.staging_is)

pub listing_finds : (t : Tally) (i : ℕ) (out : List ℕ) → listing_number_for t all_own i out ≡ 0
    → (length t.tables ≡ table_bytes) × (i < listing_packets)
unfolding listing_number_for
listing_finds t i out h =
    let p = all_passed (listing_checks (listing_lent (length t.tables) (length out)) i) refl h in
    let q = and_split _ _ p.0 in
    (eqb-true _ _ q.0, ltb-true _ _ p.1.0)
