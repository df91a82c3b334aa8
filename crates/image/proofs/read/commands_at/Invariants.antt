-- `commands_at` has filled, after i turns, the first i commands.
use Rattle.std.proofs.Common.{◌≡◌, length, take}
use Rattle.image.specs.Image.{commands_at}
use Rattle.image.proofs.read.commands_at.Given as goal

abbrev pub invariant-loop-i : goal.invariant-loop-i
invariant-loop-i l = (take l.i l.entry-items ≡ commands_at l.image l.at l.i) × (length l.entry-items ≡ 32)
