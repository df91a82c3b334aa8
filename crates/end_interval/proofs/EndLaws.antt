-- What an interval that can be ended has passed, and that its end leaves a state within its limits. Assumes nothing.
use Rattle.std.proofs.Common.{◌≡◌, true, List, ℕ, arith, eqb-true, le-leb, length}
use Rattle.wire.specs.Lists.{all}
use Rattle.wire.proofs.Lists.{and_split}
use Rattle.capacity.specs.declared.Capacity.{Capacity}
use Rattle.capacity.specs.Capacity.{numbers_of}
use Rattle.tables.specs.Tables.{table_bytes}
use Rattle.sample_record.specs.Record.{record_good}
use Rattle.load.specs.Staging.{staging_bytes}
use Rattle.command_list.specs.CommandList.{waiting_of}
use Rattle.command_list.proofs.CommandListLaws.{commands_are, fresh_within}
use Rattle.command_list.proofs.RunLaws.{settings_all, addresses_all}
use Rattle.state.specs.declared.State.{State}
use Rattle.state.specs.Interval.{fresh_interval, interval_within}
use Rattle.state.specs.Limits.{ranges_of, within_limits}
use Rattle.state.proofs.LimitLaws.{state_limits, state_whole}
use Rattle.end_interval.specs.End.{end_lent, endable, state_ended}

-- the lengths of what is lent, and good slots
pub record RightLent (c : Capacity) (tables staging : ℕ) (slots : List ℕ) : Type 0 where
  pub tables_are : tables ≡ table_bytes
  pub staging_is : staging ≡ staging_bytes
  pub slots_are : length slots ≡ (numbers_of c).slots
  pub slots_good : all record_good slots ≡ true

pub end_lent_lem : (c : Capacity) (tables staging : ℕ) (slots : List ℕ) → end_lent c tables staging slots ≡ true
    → RightLent c tables staging slots
end_lent_lem c tables staging slots h =
    let p = and_split _ _ h in
    let q = and_split _ _ p.0 in
    let r = and_split _ _ q.0 in
    record {
      tables_are = eqb-true _ _ r.0;
      staging_is = eqb-true _ _ r.1;
      slots_are = eqb-true _ _ q.1;
      slots_good = p.1;
    }

pub end_passed : (s : State) (tables staging : ℕ) (slots : List ℕ) → endable s tables staging slots ≡ true
    → (within_limits s ≡ true) × RightLent s.capacity tables staging slots
end_passed s tables staging slots h =
    let p = and_split _ _ h in
    (p.0, end_lent_lem s.capacity tables staging slots p.1)

-- ---- limits

pub fresh_interval_lem : (slots : ℕ) → interval_within slots fresh_interval ≡ true
unfolding interval_within
fresh_interval_lem slots = rw (le-leb 0 slots (omega arith))

pub ended_within : (s : State) → within_limits s ≡ true → within_limits (state_ended s) ≡ true
unfolding state_ended
ended_within s h =
    let l = state_limits s h in
    let ws = waiting_of s.commands in
    state_whole _
    record {
      interval = fresh_interval_lem _;
      settings = settings_all s.settings (ranges_of s) ws l.settings (commands_are s.commands (ranges_of s) l.commands).given;
      commands = fresh_within _;
      staging = addresses_all s.staging ws l.staging;
    }
