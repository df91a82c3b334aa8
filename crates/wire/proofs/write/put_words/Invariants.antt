-- After i words `put_words` has put the four bytes of each of the first i, in order.
use Rattle.std.proofs.Common.{◌≡◌, length, take}
use Rattle.wire.specs.Bytes.{put, words}
use Rattle.wire.proofs.write.put_words.Given as goal

abbrev pub invariant-loop-i : goal.invariant-loop-i
invariant-loop-i l = (l.part ≡ put l.initial.part l.at (words (take l.i l.ws))) × (length l.part ≡ length l.initial.part)
