-- The scan of `all_at_most` has tested what is behind it, and `all` of the rest is still to be tested.
use Rattle.std.proofs.Common.{◌&&◌, ◌≡◌, drop}
use Rattle.wire.specs.Lists.{all, at_most}
use Rattle.state.proofs.interval.all_at_most.Given as goal

abbrev pub invariant-loop-number : goal.invariant-loop-number
invariant-loop-number l = (l.ok && all (at_most l.limit) (drop l.number-index l.numbers)) ≡ all (at_most l.limit) l.numbers
