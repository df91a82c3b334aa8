-- `write` has put, after i turns, the codes wanted of the first i rates one behind the other.
use Rattle.std.proofs.Common.{◌≡◌, length}
use Rattle.wire.specs.Bytes.{put}
use Rattle.rate_code.specs.Editions.{mark_in}
use Rattle.packet.specs.Layout.{body_at}
use Rattle.packet.specs.Packet.{codes}
use Rattle.decode.specs.Read.{rates_of}
use Rattle.converter.proofs.rates.Rates.write.Given as goal

abbrev pub invariant-loop-i : goal.invariant-loop-i
invariant-loop-i l = (l.out ≡ put l.initial.out body_at (codes (mark_in l.wanted) (rates_of l.i l.self.packet.now))) × (length l.out ≡ length l.initial.out)
