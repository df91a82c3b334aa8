-- Staging has its length, and the waiting loads are in the ranges of the state.
use Rattle.std.proofs.Common.{length}
use Rattle.state.proofs.LimitLaws.{state_limits}
use Rattle.end_interval.proofs.EndLaws.{end_passed}
use Rattle.end_interval.proofs.end.Goals as goal

pub unreachable-requires-in_default-try_from : goal.unreachable-requires-in_default-try_from
unreachable-requires-in_default-try_from c =
    let a = c.args in
    c.in_default-try_from.ensures.1 (end_passed a.state.now (length a.tables.now) (length a.staging.now) a.slots.now c.requires).1.staging_is

pub run_loads-requires : goal.run_loads-requires
run_loads-requires c =
    let a = c.args in
    rw c.ranges_of-ranges.ensures (state_limits a.state.now (end_passed a.state.now (length a.tables.now) (length a.staging.now) a.slots.now c.requires).0).commands
