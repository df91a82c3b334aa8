-- Each turn of `write_packets` puts one packet behind those that are written, and counts it.
use Rattle.std.proofs.Common.{◌≤◌, ◌≡◌, length}
use Rattle.rate_code.specs.Editions.{mark_number}
use Rattle.convert.specs.Block.{written_all, counted_all}
use Rattle.convert.proofs.block.write_packets.Given as goal

abbrev pub invariant-loop-i : goal.invariant-loop-i
invariant-loop-i l = (l.i ≤ l.n) × (l.out ≡ written_all (mark_number l.wanted) l.i l.block) × (l.after ≡ counted_all (mark_number l.wanted) l.i l.initial.after l.block) × (length l.out ≡ length l.block)
