-- An event that is judged right has what `take_event` requires.
use Rattle.std.proofs.Common.{sym}
use Rattle.take_event.proofs.EventLaws.{event_taken}
use Rattle.processor.proofs.event.event.Goals as goal

pub take_event-requires : goal.take_event-requires
take_event-requires c =
    let t = event_taken c.args.state.now _ _ c.args.event (sym c.in_ok-tables.ensures.number) in
    record { slots_len = t.slots_are; state_value = t.limits; event_value = (t.range, t.room) }
