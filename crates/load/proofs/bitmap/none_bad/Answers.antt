-- `none_bad` has found, from the whole bytes on and then turn by turn, whether none of the first i staged bytes is bad.
use Rattle.std.proofs.Common.{ap, not}
use Rattle.wire.proofs.Pieces.{each_turn}
use Rattle.load.proofs.bitmap.none_bad.Goals as goal

pub loop-i-preserved : goal.loop-i-preserved
loop-i-preserved c = each_turn _ c.loop-i.i c.loop-i.invariant (ap not c.is_bad.ensures)
