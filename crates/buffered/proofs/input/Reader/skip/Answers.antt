-- What waits behind the first n bytes stands n further on in the buffer.
use Rattle.std.proofs.Common.{◌≡◌, ℕ, ◌+◌, ◌-◌, ◌≤◌, List, length, take, drop, sym, ap, ◌∙◌, arith}
use Rattle.std.proofs.lemmas.List.{drop-take, drop-drop}
use Rattle.std.proofs.Math.ListN.{length-take}
use Rattle.buffered.proofs.input.Reader.skip.Goals as goal

skipped : (at end n : ℕ) (b : List ℕ) → n ≤ length (take (end - at) (drop at b))
    → take (end - (at + n)) (drop (at + n) b) ≡ drop n (take (end - at) (drop at b))
skipped at end n b h =
    let m : ℕ = end - (at + n) in
    let e : end - at ≡ n + m = omega (arith, length-take (end - at) (drop at b)) in
    ap (take m) (sym (drop-drop n at b)) ∙ sym (drop-take n m (drop at b)) ∙ ap (λ (k : ℕ). drop n (take k (drop at b))) (sym e)

pub returns : goal.returns
returns c =
    let i = c.self.inside in
    let v = c.self.view_is in
    skipped i.waits.at i.waits.end c.args.n i.buffer.now (omega (arith, c.requires, ap length v)) ∙ ap (drop c.args.n) v
