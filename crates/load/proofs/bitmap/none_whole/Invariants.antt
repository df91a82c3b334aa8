-- `none_whole` has found, byte by byte, whether none of the staged bytes of those bits is bad.
use Rattle.std.proofs.Common.{◌≡◌, ◌*◌}
use Rattle.load.specs.Bitmap.{none_bad}
use Rattle.load.proofs.bitmap.none_whole.Given as goal

abbrev pub invariant-loop-byte : goal.invariant-loop-byte
invariant-loop-byte l = l.good ≡ none_bad l.bitmap (8 * l.byte-index)
