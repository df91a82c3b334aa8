-- After i commands `put_commands` has put the six bytes of each of the first i, in order.
use Rattle.std.proofs.Common.{◌≡◌, length, take}
use Rattle.wire.specs.Bytes.{put}
use Rattle.image.specs.Image.{commands_bytes}
use Rattle.image.proofs.write.put_commands.Given as goal

abbrev pub invariant-loop-i : goal.invariant-loop-i
invariant-loop-i l = (l.image ≡ put l.initial.image l.at (commands_bytes (take l.i l.waiting))) × (length l.image ≡ length l.initial.image)
