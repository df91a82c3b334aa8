-- `put_packed` writes the zeros before, the bytes and the zeros behind, which together are the packed word.
use Rattle.std.proofs.Common.{ℕ, ◌+◌, ◌-◌, ◌≡◌, ap, ◌∙◌, List, ◌++◌, append_assoc, arith, length, length-append}
use Rattle.std.proofs.Math.ListN.{length-replicate}
use Rattle.wire.specs.Bytes.{put, zeros}
use Rattle.wire.specs.Pieces.{padded}
use Rattle.wire.proofs.Bytes.{then}
use Rattle.load.proofs.run.put_packed.Goals as goal

pub returns : goal.returns
unfolding padded
returns c =
    let s = c.args in
    let xs = s.tables.now in
    let b = s.bytes.now in
    let from : ℕ = s.at + (3 - s.width) in
    let k : from - s.at ≡ 3 - s.width = omega arith in
    let n : s.at + 3 - (from + length b) ≡ s.width - length b = omega arith in
    let front : List ℕ = zeros (3 - s.width) in
    let lf : length front ≡ 3 - s.width = length-replicate {A = ℕ} (3 - s.width) 0 in
    let lb : length (front ++ b) ≡ length front + length b = length-append front b in
    let e = c.put_zeros.ensures ∙ ap (λ (m : ℕ). put xs s.at (zeros m)) k in
    then xs s.at (front ++ b) (zeros (s.width - length b)) (from + length b)
    (then xs s.at front b from e c.put_bytes.ensures (omega arith) (omega arith))
    (c.put_zeros-2.ensures ∙ ap (λ (m : ℕ). put c.put_bytes.new.part (from + length b) (zeros m)) n)
    (omega arith)
    (omega arith)
    ∙ ap (put xs s.at) (append_assoc front b (zeros (s.width - length b)))
