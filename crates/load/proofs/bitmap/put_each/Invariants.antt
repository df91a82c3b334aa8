-- `put_each` has put, after i turns, the bits of the first i staged bytes.
use Rattle.std.proofs.Common.{◌≡◌, length}
use Rattle.load.specs.Bitmap.{bitmap_after}
use Rattle.load.proofs.bitmap.put_each.Given as goal

abbrev pub invariant-loop-i : goal.invariant-loop-i
invariant-loop-i l = (l.bitmap ≡ bitmap_after l.initial.bitmap l.next l.i l.bad) × (length l.bitmap ≡ length l.initial.bitmap)
