-- A byte more is the next of the source.
use Rattle.std.proofs.Common.{ℕ, ◌+◌, ◌≡◌, refl, ap, ◌∙◌, List, ◌++◌, arith, add-one, length, take, get_or, length-set, take-suc}
use Rattle.std.proofs.Common.{length-take-le}
use Rattle.wire.specs.Bytes.{put, one}
use Rattle.wire.proofs.Bytes.{put_sets, then, put_nil}
use Rattle.wire.proofs.write.put_bytes.Goals as goal

pub loop-i-init : goal.loop-i-init
loop-i-init c = (put_nil _ _, refl)

pub loop-i-preserved : goal.loop-i-preserved
loop-i-preserved c =
    let a = c.args in
    let xs = a.part.now in
    let src = a.src.now in
    let i = c.loop-i.i in
    let P : List ℕ = c.loop-i.part in
    let v = get_or src i 0 in
    let n : length (take i src) ≡ i = length-take-le i src (omega arith) in
    let e : take i src ++ one v ≡ take (i + 1) src = rw (add-one, take-suc src i 0 (omega arith)) in (
      then xs a.at (take i src) (one v) (a.at + i) c.loop-i.invariant.0 (put_sets (one v) P (a.at + i) (omega arith)) (omega arith) (omega arith)
          ∙ ap (put xs a.at) e,
      simp length-set (omega arith),
    )
