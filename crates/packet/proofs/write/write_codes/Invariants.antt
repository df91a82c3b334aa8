-- `write_codes` has put, after i turns, the second edition's codes of the first i counts one behind the other.
use Rattle.std.proofs.Common.{◌≡◌, length, take}
use Rattle.wire.specs.Bytes.{put}
use Rattle.rate_code.specs.Editions.{second_mark}
use Rattle.packet.specs.Packet.{codes}
use Rattle.packet.proofs.write.write_codes.Given as goal

abbrev pub invariant-loop-i : goal.invariant-loop-i
invariant-loop-i l = (l.part ≡ put l.initial.part l.at (codes second_mark (take l.i l.counts))) × (length l.part ≡ length l.initial.part)
