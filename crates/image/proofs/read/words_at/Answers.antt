-- `words_at` has filled, after i turns, the first i words.
use Rattle.std.proofs.Common.{refl, arith, length-set}
use Rattle.wire.proofs.Pieces.{table_none, table_turn}
use Rattle.image.specs.Image.{numbers_at}
use Rattle.image.proofs.read.words_at.Goals as goal

pub loop-i-init : goal.loop-i-init
unfolding numbers_at
loop-i-init c = (table_none _, refl)

pub loop-i-preserved : goal.loop-i-preserved
unfolding numbers_at
loop-i-preserved c = (
  table_turn _ c.loop-i.out c.loop-i.i (omega arith) c.loop-i.invariant.0 c.read.ensures,
  simp length-set c.loop-i.invariant.1,
)
