-- Sixty readings leave room in every total.
use Rattle.state.proofs.LimitLaws.{state_limits, totals_below}
use Rattle.take_reading.proofs.take_reading.Goals as goal

pub add-requires : goal.add-requires
add-requires c =
    let s = c.args.state.now in
    totals_below _ s.interval (state_limits s c.requires.0).interval
