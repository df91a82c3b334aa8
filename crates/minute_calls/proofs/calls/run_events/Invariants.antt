-- After each turn of `run_events` the records so far led from the first state and slots to those of now.
use Rattle.std.proofs.Common.{◌≤◌, ◌-◌, length}
use Rattle.minute_calls.specs.Events.{EventsRun}
use Rattle.minute_calls.proofs.calls.run_events.Given as goal

abbrev pub invariant-loop-used : goal.invariant-loop-used
invariant-loop-used l = record {
  used : l.used ≤ length l.waiting;
  run : EventsRun l.initial.state l.tables l.initial.slots l.waiting l.used l.state l.slots;
}

abbrev pub decreases-loop-used : goal.decreases-loop-used
decreases-loop-used l = length l.waiting - l.used
