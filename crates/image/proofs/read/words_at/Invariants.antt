-- `words_at` has filled, after i turns, the first i words.
use Rattle.std.proofs.Common.{◌≡◌, length, take}
use Rattle.image.specs.Image.{numbers_at}
use Rattle.image.proofs.read.words_at.Given as goal

abbrev pub invariant-loop-i : goal.invariant-loop-i
invariant-loop-i l = (take l.i l.out ≡ numbers_at l.image l.at l.i) × (length l.out ≡ length l.initial.out)
