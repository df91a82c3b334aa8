-- After i bytes `put_bytes` has put the first i of its source.
use Rattle.std.proofs.Common.{◌≡◌, length, take}
use Rattle.wire.specs.Bytes.{put}
use Rattle.wire.proofs.write.put_bytes.Given as goal

abbrev pub invariant-loop-i : goal.invariant-loop-i
invariant-loop-i l = (l.part ≡ put l.initial.part l.at (take l.i l.src)) × (length l.part ≡ length l.initial.part)
