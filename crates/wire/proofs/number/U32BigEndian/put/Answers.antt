-- `put` of a u32 sets four places in a row, the high byte first.
use Rattle.std.proofs.Common.{◌≡◌, ◌+◌, suc, arith}
use Rattle.wire.specs.Bytes.{be32}
use Rattle.wire.proofs.Bytes.{put_sets}
use Rattle.wire.proofs.number.U32BigEndian.put.Goals as goal

pub returns : goal.returns
returns c =
    let a = c.args in
    let e1 : a.at + 1 ≡ suc a.at = omega arith in
    let e2 : a.at + 2 ≡ suc (suc a.at) = omega arith in
    let e3 : a.at + 3 ≡ suc (suc (suc a.at)) = omega arith in
    rw (e1, e2, e3) (put_sets (be32 a.self) a.part.now a.at (omega arith))
