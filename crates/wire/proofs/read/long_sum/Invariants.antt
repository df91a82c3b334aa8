-- The sum so far and the bytes that `long_sum` has not passed are together the total, and 255 a byte bounds it.
use Rattle.std.proofs.Common.{◌≡◌, ◌+◌, ◌*◌, ◌≤◌, drop}
use Rattle.wire.specs.Bytes.{total}
use Rattle.wire.proofs.read.long_sum.Given as goal

abbrev pub invariant-loop-chunk : goal.invariant-loop-chunk
invariant-loop-chunk l = (l.sum ≤ 8160 * l.chunk-index) × (total l.part ≡ l.sum + total (drop (32 * l.chunk-index) l.part))
