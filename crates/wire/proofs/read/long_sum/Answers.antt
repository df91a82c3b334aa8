-- The chunks passed and the bytes behind them are together the total.
use Rattle.std.proofs.Common.{◌/◌, length, arith}
use Rattle.wire.proofs.Bytes.{total_chunk}
use Rattle.wire.proofs.read.long_sum.Goals as goal

pub loop-chunk-preserved : goal.loop-chunk-preserved
loop-chunk-preserved c =
    let p = c.args.part.now in
    let i = c.loop-chunk.chunk-index in
    let h = total_chunk 32 (length p / 32) i p c.as_chunks.result.0.now c.as_chunks.ensures.front (omega arith) in
    (omega arith, omega (arith, h))
