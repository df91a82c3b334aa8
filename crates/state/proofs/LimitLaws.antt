-- The limits of a state and of its interval as facts, and back; what they say of each count; and what keeps them. Assumes nothing.
use Rattle.std.proofs.Common.{◌≡◌, refl, ap, ◌∙◌, Bool, true, false, ◌&&◌, not, ℕ, ◌*◌, ◌≤◌, ◌<◌, arith, leb-true, le-leb}
use Rattle.wire.specs.Lists.{all, at_most, EachBelow}
use Rattle.wire.proofs.Lists.{and_split, all_at}
use Rattle.capacity.specs.declared.Numbers.{Numbers}
use Rattle.capacity.specs.Capacity.{numbers_of}
use Rattle.settings.specs.Settings.{settings_within}
use Rattle.load.specs.Staging.{addresses_within}
use Rattle.load.specs.declared.staging.Addresses.{Addresses}
use Rattle.command.specs.declared.ranges.Ranges.{Ranges}
use Rattle.command_list.specs.declared.CommandList.{CommandList}
use Rattle.command_list.specs.CommandList.{load_waits, command_list_within}
use Rattle.command_list.proofs.CommandListLaws.{any_reach}
use Rattle.state.specs.declared.State.{State}
use Rattle.state.specs.declared.interval.Interval.{Interval}
use Rattle.state.specs.Interval.{most_events, most_readings, counts_within, samples_within, readings_within, interval_within}
use Rattle.state.specs.Limits.{ranges_of, within_limits}
use Rattle.state.specs.State.{with_interval, with_command_list, with_staging}

-- ---- the tests of the parts

-- two tests behind one, or one by one
one_by_one : (a b c : Bool) → (a && (b && c)) ≡ (a && b && c)
one_by_one true b c = refl
one_by_one false b c = refl

-- are that of the state, where each part is judged by itself
pub limits_by_parts : (s : State) {n : Numbers} {g : Ranges} {counts rest settings commands staging : Bool} → n ≡ numbers_of s.capacity
    → g ≡ ranges_of s → counts ≡ counts_within s.interval.taken s.interval.counts
    → rest ≡ (samples_within n.slots s.interval.taken s.interval.samples && readings_within s.interval.readings s.interval.totals)
    → settings ≡ settings_within n.limhi s.settings → commands ≡ command_list_within s.commands g
    → staging ≡ addresses_within s.staging → (counts && rest && settings && commands && staging) ≡ within_limits s
unfolding within_limits interval_within
limits_by_parts s n g c r t m a =
    let i = s.interval in
    let slots : Numbers → Bool = λ k. samples_within k.slots i.taken i.samples in
    let readings = readings_within i.readings i.totals in
    (λ j. c j && r j && t j && m j && a j)
    ∙ (λ j.
    counts_within i.taken i.counts && (slots (n j) && readings) && settings_within (n j).limhi s.settings
    && command_list_within s.commands (g j) && addresses_within s.staging)
    ∙ ap (λ (b : Bool).
    b && settings_within (ranges_of s).limhi s.settings && command_list_within s.commands (ranges_of s) && addresses_within s.staging)
    (one_by_one (counts_within i.taken i.counts) (slots (numbers_of s.capacity)) readings)

-- ---- a state

pub record StateLimits (s : State) : Type 0 where
  pub interval : interval_within (numbers_of s.capacity).slots s.interval ≡ true
  pub settings : settings_within (ranges_of s).limhi s.settings ≡ true
  pub commands : command_list_within s.commands (ranges_of s) ≡ true
  pub staging : addresses_within s.staging ≡ true

pub state_limits : (s : State) → within_limits s ≡ true → StateLimits s
unfolding within_limits
state_limits s h =
    let p = and_split _ _ h in
    let q = and_split _ _ p.0 in
    let r = and_split _ _ q.0 in
    record { interval = r.0; settings = r.1; commands = q.1; staging = p.1 }

pub state_whole : (s : State) → StateLimits s → within_limits s ≡ true
unfolding within_limits
state_whole s l = rw (l.interval, l.settings, l.commands, l.staging)

-- ---- an interval

pub record IntervalLimits (slots : ℕ) (i : Interval) : Type 0 where
  pub taken_most : i.taken ≤ most_events
  pub boxes_most : all (at_most i.taken) i.counts.boxes ≡ true
  pub beacons_most : all (at_most i.taken) i.counts.beacons ≡ true
  pub eligible_taken : i.samples.eligible ≤ i.taken
  pub used_taken : i.samples.slots.used ≤ i.taken
  pub used_most : i.samples.slots.used ≤ slots
  pub replaced_taken : i.samples.slots.replaced ≤ i.taken
  pub readings_most : i.readings ≤ most_readings
  pub totals_most : all (at_most (65535 * i.readings)) i.totals ≡ true

pub interval_limits : (slots : ℕ) (i : Interval) → interval_within slots i ≡ true → IntervalLimits slots i
unfolding interval_within
interval_limits slots i h =
    let p = and_split _ _ h in
    let q = and_split _ _ p.0 in
    let c = and_split _ _ q.0 in
    let c' = and_split _ _ c.0 in
    let l = and_split _ _ q.1 in
    let l' = and_split _ _ l.0 in
    let l'' = and_split _ _ l'.0 in
    let r = and_split _ _ p.1 in
    record {
      taken_most = leb-true _ _ c'.0;
      boxes_most = c'.1;
      beacons_most = c.1;
      eligible_taken = leb-true _ _ l''.0;
      used_taken = leb-true _ _ l''.1;
      used_most = leb-true _ _ l'.1;
      replaced_taken = leb-true _ _ l.1;
      readings_most = leb-true _ _ r.0;
      totals_most = r.1;
    }

pub interval_whole : (slots : ℕ) (i : Interval) → IntervalLimits slots i → interval_within slots i ≡ true
unfolding interval_within
interval_whole slots i w =
    rw (
      le-leb _ _ w.taken_most,
      w.boxes_most,
      w.beacons_most,
      le-leb _ _ w.eligible_taken,
      le-leb _ _ w.used_taken,
      le-leb _ _ w.used_most,
      le-leb _ _ w.replaced_taken,
      le-leb _ _ w.readings_most,
      w.totals_most,
    )

-- every count is below n where taken is
pub boxes_below : (n slots : ℕ) (i : Interval) → interval_within slots i ≡ true → i.taken < n → EachBelow n i.counts.boxes
boxes_below n slots i w h k = omega (arith, all_at i.taken i.counts.boxes k (interval_limits slots i w).boxes_most)

pub beacons_below : (n slots : ℕ) (i : Interval) → interval_within slots i ≡ true → i.taken < n → EachBelow n i.counts.beacons
beacons_below n slots i w h k = omega (arith, all_at i.taken i.counts.beacons k (interval_limits slots i w).beacons_most)

-- sixty readings make no total over 3,932,100
pub totals_below : (slots : ℕ) (i : Interval) → interval_within slots i ≡ true → EachBelow 4000000 i.totals
totals_below slots i w k =
    let l = interval_limits slots i w in
    omega (arith, all_at (65535 * i.readings) i.totals k l.totals_most, l.readings_most)

-- ---- a state with another part

pub interval_kept : (s : State) (i : Interval) → within_limits s ≡ true → interval_within (numbers_of s.capacity).slots i ≡ true
    → within_limits (with_interval s i) ≡ true
interval_kept s i h k =
    let l = state_limits s h in
    state_whole (with_interval s i) record { interval = k; settings = l.settings; commands = l.commands; staging = l.staging }

-- addresses that move where no load waits
pub staging_kept : (s : State) (a : Addresses) → within_limits s ≡ true → not (load_waits s.commands) ≡ true → addresses_within a ≡ true
    → within_limits (with_staging s a) ≡ true
staging_kept s a h n k =
    let l = state_limits s h in
    let o = any_reach s.commands (numbers_of s.capacity).limhi a.reach s.staging.reach n in
    state_whole (with_staging s a) record { interval = l.interval; settings = l.settings; commands = o ∙ l.commands; staging = k }

pub commands_kept : (s : State) (o : CommandList) → within_limits s ≡ true → command_list_within o (ranges_of s) ≡ true
    → within_limits (with_command_list s o) ≡ true
commands_kept s o h k =
    let l = state_limits s h in
    state_whole (with_command_list s o) record { interval = l.interval; settings = l.settings; commands = k; staging = l.staging }
