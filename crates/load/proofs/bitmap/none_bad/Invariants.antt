-- `none_bad` has found, from the whole bytes on and then turn by turn, whether none of the first i staged bytes is bad.
use Rattle.std.proofs.Common.{◌≡◌}
use Rattle.load.specs.Bitmap.{none_bad}
use Rattle.load.proofs.bitmap.none_bad.Given as goal

abbrev pub invariant-loop-i : goal.invariant-loop-i
invariant-loop-i l = l.good ≡ none_bad l.bitmap l.i
