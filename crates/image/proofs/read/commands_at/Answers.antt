-- `commands_at` has filled, after i turns, the first i commands.
use Rattle.std.proofs.Common.{refl, arith, length-set}
use Rattle.image.specs.Image.{commands_at}
use Rattle.image.proofs.ListLaws.{waitings_none, waitings_turn}
use Rattle.image.proofs.read.commands_at.Goals as goal

pub loop-i-init : goal.loop-i-init
unfolding commands_at
loop-i-init c = (waitings_none _, refl)

pub loop-i-preserved : goal.loop-i-preserved
unfolding commands_at
loop-i-preserved c = (
  waitings_turn _ c.loop-i.entry-items c.loop-i.i (omega arith) c.loop-i.invariant.0 c.entry_at.ensures,
  simp length-set c.loop-i.invariant.1,
)
