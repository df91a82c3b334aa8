-- `put_bits` puts the bits before the whole bytes, those, and the bits behind them.
use Rattle.std.proofs.Common.{ℕ, ◌+◌, ◌-◌, ◌*◌, ◌/◌, arith}
use Rattle.load.proofs.BitmapLaws.{then_bitmap}
use Rattle.load.proofs.bitmap.put_bits.Goals as goal

pub returns : goal.returns
returns c =
    let a = c.args in
    let bitmap = a.bitmap.now in
    let first : ℕ = (a.next + 7) / 8 in
    let before : ℕ = 8 * first - a.next in
    let many : ℕ = (a.n - before) / 8 in
    then_bitmap bitmap a.next (before + 8 * many) (a.n - before - 8 * many) (8 * (first + many)) a.n a.bad
    (then_bitmap bitmap a.next before (8 * many) (8 * first) (before + 8 * many) a.bad c.put_each-2.ensures c.put_whole.ensures
    (omega arith) (omega arith))
    c.put_each-3.ensures
    (omega arith)
    (omega arith)
