-- `records_good` has tested, after i turns, the first i records.
use Rattle.std.specs.Prelude.{ℕ, ◌≡◌, ◌+◌, ◌*◌, ◌<◌, [], get_or}
use Rattle.std.proofs.Common.{arith}
use Rattle.std.proofs.Math.Path.{ap, ◌∙◌}
use Rattle.wire.specs.Bytes.{at32}
use Rattle.wire.proofs.Bytes.{chunk_byte}
use Rattle.wire.proofs.Pieces.{each_start, each_turn}
use Rattle.sample_record.specs.Record.{record_good}
use Rattle.packet.specs.Layout.{body_at}
use Rattle.decode.specs.Read.{record_at, records_good}
use Rattle.decode.proofs.faults.records_good.Goals as goal

pub loop-bytes-init : goal.loop-bytes-init
unfolding records_good
loop-bytes-init c = each_start _

pub loop-bytes-preserved : goal.loop-bytes-preserved
unfolding records_good
loop-bytes-preserved c =
    let xs = c.args.packet.now in
    let i = c.loop-bytes.bytes-index in
    let cs = c.as_chunks.result.0.now in
    let byte : (j m : ℕ) → j < 4 → body_at + (4 * i + j) ≡ m → get_or (get_or cs i []) j 0 ≡ get_or xs m 0 =
    λ j m l e. chunk_byte 4 body_at _ _ i xs cs c.as_chunks.ensures.front (omega arith) j m l (omega arith) e in
    let at = body_at + 4 * i in
    let b0 = byte 0 at (omega arith) (omega arith) in
    let b1 = byte 1 (at + 1) (omega arith) (omega arith) in
    let b2 = byte 2 (at + 2) (omega arith) (omega arith) in
    let b3 = byte 3 (at + 3) (omega arith) (omega arith) in
    let record-is : at32 (get_or cs i []) 0 ≡ record_at xs i = λ k. 16777216 * b0 k + 65536 * b1 k + 256 * b2 k + b3 k in
    each_turn _ i c.loop-bytes.invariant (c.record_fits-good.ensures ∙ ap record_good record-is)
