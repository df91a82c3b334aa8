-- `put_u24` sets three places in a row, the high byte first.
use Rattle.std.proofs.Common.{ℕ, ◌≡◌, ◌+◌, ◌/◌, ◌∙◌, List, ap, suc, arith}
use Rattle.std.specs.Prelude.{get_or}
use Rattle.std.proofs.lemmas.List.{length-set}
use Rattle.wire.specs.Bytes.{be24}
use Rattle.wire.proofs.Bytes.{put_sets}
use Rattle.wire.proofs.write.put_u24.Goals as goal

pub bounds-part-at-2 : goal.bounds-part-at-2
bounds-part-at-2 c = simp length-set (omega arith)

pub bounds-part-at-3 : goal.bounds-part-at-3
bounds-part-at-3 c = simp length-set (omega arith)

pub returns : goal.returns
returns c =
    let a = c.args in
    let e = c.to_be_bytes.ensures in
    let high : get_or c.to_be_bytes.result 1 0 ≡ a.v / 65536 =
    ap (λ (l : List ℕ). get_or l 1 0) e ∙ omega (arith, c.requires.v_bound) in
    let middle = ap (λ (l : List ℕ). get_or l 2 0) e in
    let low = ap (λ (l : List ℕ). get_or l 3 0) e in
    let e1 : a.at + 1 ≡ suc a.at = omega arith in
    let e2 : a.at + 2 ≡ suc (suc a.at) = omega arith in
    rw (high, middle, low, e1, e2) (put_sets (be24 a.v) a.part.now a.at (omega arith))
