-- What an event that is taken has passed, and that it leaves the interval within its limits. Assumes nothing.
use Rattle.std.proofs.Common.{◌≡◌, refl, sym, Bool, true, false, ◌&&◌, cond, ℕ, ◌+◌, ◌≤◌, ◌<◌, arith, eqb-true, ltb-true, ne_eqb}
use Rattle.std.proofs.Common.{ltb}
use Rattle.causes.specs.Causes.{buffer_or_state}
use Rattle.causes.proofs.CheckLaws.{all_passed}
use Rattle.wire.proofs.Lists.{and_split}
use Rattle.capacity.specs.Capacity.{numbers_of}
use Rattle.settings.specs.declared.Settings.{Settings}
use Rattle.tables.specs.Tables.{table_bytes}
use Rattle.sort.specs.declared.event.Event.{Event}
use Rattle.sort.specs.declared.sorting.Outcome.{Outcome}
use Rattle.sort.specs.Boxes.{OutcomeNames}
use Rattle.sort.specs.Event.{in_range}
use Rattle.counts.specs.Counts.{boxes_of, beacons_of, counted_of}
use Rattle.counts.proofs.TalliedLaws.{tallied_most, boxes_differ, beacons_differ}
use Rattle.samples.specs.declared.slots.SlotUse.{SlotUse}
use Rattle.samples.specs.Samples.{Place, free, replace, none, eligible, priority_of, place_of, use_after}
use Rattle.samples.specs.Selection.{place_for}
use Rattle.state.specs.declared.State.{State}
use Rattle.state.specs.declared.interval.Interval.{Interval}
use Rattle.state.specs.Interval.{most_events, interval_within}
use Rattle.state.specs.Limits.{within_limits}
use Rattle.state.proofs.LimitLaws.{interval_limits, interval_whole}
use Rattle.take_event.specs.Event.{event_checks, event_lent, event_number, interval_taken}

pub record EventTaken (s : State) (tables slots : ℕ) (e : Event) : Type 0 where
  pub limits : within_limits s ≡ true
  pub tables_are : tables ≡ table_bytes
  pub slots_are : slots ≡ (numbers_of s.capacity).slots
  pub range : in_range e ≡ true
  pub room : s.interval.taken < most_events

pub event_taken : (s : State) (tables slots : ℕ) (e : Event) → event_number s tables slots e ≡ 0 → EventTaken s tables slots e
unfolding event_number
event_taken s tables slots e h =
    let p = all_passed (event_checks (within_limits s && event_lent s.capacity tables slots) s.interval.taken e) refl h in
    let q = and_split _ _ p.0 in
    let r = and_split _ _ q.1 in
    record {
      limits = q.0;
      tables_are = eqb-true _ _ r.0;
      slots_are = eqb-true _ _ r.1;
      range = p.1.0;
      room = ltb-true _ _ p.1.1.0;
    }

-- tables of another length are refused, whatever else applies
pub other_tables : (s : State) (tables slots : ℕ) (e : Event) → (tables ≡ table_bytes → ⊥) → event_number s tables slots e ≡ buffer_or_state
unfolding event_number
other_tables s tables slots e h = rw (ne_eqb tables table_bytes h) (go (within_limits s) _)
  where
    go : (b : Bool) (n : ℕ) → cond (b && false) n 1 ≡ 1
    go true n = refl
    go false n = refl

-- a slot is used more only below their number, and either number rises by one at most
used_most : (N : ℕ) (x y z : Bool) (u : SlotUse) → x ≡ ltb u.used N → u.used ≤ N
    → (use_after (cond z (cond x free (cond y replace none)) none) u).used ≤ N
used_most N true y true u e h = omega (arith, ltb-true u.used N (sym e))
used_most N false true true u e h = h
used_most N false false true u e h = h
used_most N x y false u e h = h

use_more : (p : Place) (u : SlotUse) → ((use_after p u).used ≤ u.used + 1) × ((use_after p u).replaced ≤ u.replaced + 1)
use_more free u = (omega arith, omega arith)
use_more replace u = (omega arith, omega arith)
use_more none u = (omega arith, omega arith)

eligible_more : (b : Bool) (n : ℕ) → cond b (n + 1) n ≤ n + 1
eligible_more true n = omega arith
eligible_more false n = omega arith

pub taken_within : (N : ℕ) (i : Interval) (s : Settings) (o : Outcome) → OutcomeNames o → i.taken < most_events
    → interval_within N i ≡ true → interval_within N (interval_taken N i s o) ≡ true
unfolding interval_taken counted_of place_of
taken_within N i s o n r h =
    let w = interval_limits N i h in
    let u = i.samples.slots in
    let p = use_more (place_for N u s o) u in
    interval_whole N _
    record {
      taken_most = omega arith;
      boxes_most = tallied_most i.taken i.counts.boxes (boxes_of o) (boxes_differ o n) w.boxes_most;
      beacons_most = tallied_most i.taken i.counts.beacons (beacons_of o) (beacons_differ o n) w.beacons_most;
      used_taken = omega (arith, p.0, w.used_taken);
      used_most = used_most N (ltb u.used N) (priority_of o && ltb u.replaced s.limhi) (eligible s.junk o) u refl w.used_most;
      replaced_taken = omega (arith, p.1, w.replaced_taken);
      eligible_taken = omega (arith, eligible_more (eligible s.junk o) i.samples.eligible, w.eligible_taken);
      readings_most = w.readings_most;
      totals_most = w.totals_most;
    }
