-- `write_codes` has put, after i turns, the second edition's codes of the first i counts one behind the other.
use Rattle.std.proofs.Common.{ℕ, ◌+◌, ◌*◌, ◌≡◌, refl, sym, ap, ◌∙◌, ◌++◌, arith, length, take}
use Rattle.wire.specs.Bytes.{put, be16}
use Rattle.wire.proofs.Bytes.{then, put_nil}
use Rattle.rate_code.specs.Editions.{second_mark}
use Rattle.packet.specs.Packet.{codes}
use Rattle.wire.specs.Pieces.{runs}
use Rattle.packet.proofs.Written.{codes_take, length_codes_take}
use Rattle.packet.proofs.write.write_codes.Goals as goal

pub loop-i-init : goal.loop-i-init
unfolding codes runs
loop-i-init c = (put_nil _ _, refl)

pub loop-i-preserved : goal.loop-i-preserved
loop-i-preserved c =
    let a = c.args in
    let xs = a.part.now in
    let ns = a.counts.now in
    let i = c.loop-i.i in
    let lc : length (codes second_mark (take i ns)) ≡ 2 * i = length_codes_take second_mark ns i (omega arith) in
    let e = c.encode-code.ensures.code in (
      then xs a.at (codes second_mark (take i ns)) (be16 _) (a.at + 2 * i) c.loop-i.invariant.0 c.put.ensures
          (omega arith) (omega arith)
          ∙ ap (λ (n : ℕ). put xs a.at (codes second_mark (take i ns) ++ be16 n)) e
          ∙ ap (put xs a.at) (sym (codes_take second_mark ns i (omega arith))),
      omega arith,
    )
