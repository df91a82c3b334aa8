-- No more events were replaced than taken.
use Rattle.std.proofs.Common.{arith}
use Rattle.state.proofs.LimitLaws.{state_limits, interval_limits}
use Rattle.end_interval.proofs.summary_of.Goals as goal

pub overflow_cast-result : goal.overflow_cast-result
overflow_cast-result c =
    let s = c.args.state.now in
    let l = interval_limits _ s.interval (state_limits s c.requires).interval in
    omega (arith, l.replaced_taken, l.taken_most)
