-- `put` of a u16 sets two places in a row, the high byte first.
use Rattle.std.proofs.Common.{◌≡◌, ◌+◌, suc, arith}
use Rattle.wire.specs.Bytes.{be16}
use Rattle.wire.proofs.Bytes.{put_sets}
use Rattle.wire.proofs.number.U16BigEndian.put.Goals as goal

pub returns : goal.returns
returns c =
    let a = c.args in
    let e1 : a.at + 1 ≡ suc a.at = omega arith in
    rw e1 (put_sets (be16 a.self) a.part.now a.at (omega arith))
