-- The limits of the state bound the counts, LIMHI and the eligible events.
use Rattle.std.proofs.Common.{arith, leb-true}
use Rattle.capacity.specs.Capacity.{numbers_of}
use Rattle.capacity.proofs.NumberLaws.{limhi_slots}
use Rattle.state.proofs.LimitLaws.{state_limits, interval_limits, boxes_below, beacons_below}
use Rattle.take_event.specs.Event.{interval_taken}
use Rattle.take_event.proofs.take_event.Goals as goal

pub count-requires-clause-each_below : goal.count-requires-clause-each_below
count-requires-clause-each_below c =
    let s = c.args.state.now in
    boxes_below 1000000 _ s.interval (state_limits s c.requires.state_value).interval c.requires.event_value.1

pub count-requires-clause-each_below_2 : goal.count-requires-clause-each_below_2
count-requires-clause-each_below_2 c =
    let s = c.args.state.now in
    beacons_below 1000000 _ s.interval (state_limits s c.requires.state_value).interval c.requires.event_value.1

pub select-requires-clause-limhi_in_bounds : goal.select-requires-clause-limhi_in_bounds
select-requires-clause-limhi_in_bounds c =
    let s = c.args.state.now in
    let limhi = leb-true s.settings.limhi (numbers_of s.capacity).limhi (state_limits s c.requires.state_value).settings in
    omega (arith, c.requires.slots_len, limhi, limhi_slots s.capacity)

pub select-requires-clause-eligible_in_bounds : goal.select-requires-clause-eligible_in_bounds
select-requires-clause-eligible_in_bounds c =
    let s = c.args.state.now in
    let w = interval_limits _ s.interval (state_limits s c.requires.state_value).interval in
    omega (arith, w.eligible_taken, c.requires.event_value.1)

pub returns-clause-state : goal.returns-clause-state
unfolding interval_taken
returns-clause-state c =
    simp (c.count.ensures, c.select.ensures.kept, c.outcome_of-outcome.ensures.outcome, c.requires.slots_len)
