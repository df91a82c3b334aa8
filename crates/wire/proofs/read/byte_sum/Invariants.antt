-- The sum so far and the bytes that `byte_sum` has not passed are together the total, and 255 a byte bounds it.
use Rattle.std.proofs.Common.{◌≡◌, ◌+◌, ◌*◌, ◌≤◌, drop}
use Rattle.wire.specs.Bytes.{total}
use Rattle.wire.proofs.read.byte_sum.Given as goal

abbrev pub invariant-loop-byte : goal.invariant-loop-byte
invariant-loop-byte l = (l.sum ≤ 255 * l.byte-index) × (l.sum + total (drop l.byte-index l.part) ≡ total l.part)
