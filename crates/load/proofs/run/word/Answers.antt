-- A word of one byte, and one of two.
use Rattle.std.proofs.Common.{ℕ, ◌≡◌, ◌+◌, ◌*◌, ◌<◌, ap, ◌∙◌, arith}
use Rattle.std.proofs.Math.ListN.{get_or}
use Rattle.load.proofs.LoadLaws.{word_one, word_two}
use Rattle.load.proofs.run.word.Goals as goal

pub returns-then-this-eq1 : goal.returns-then-this-eq1
returns-then-this-eq1 g c =
    let xs = c.args.bytes.now in
    let small : c.from.result < 256 = omega (arith, c.from.ensures, c.type_inv.bytes 0) in
    let z : 0 ≡ g.row.W * 0 = omega arith in
    (word_one g.row.W xs 0 c.from.result c.if-this-eq1.true (omega arith) (c.from.ensures ∙ ap (λ (i : ℕ). get_or xs i 0) z) small, omega (arith, small))

pub returns-else-this-eq1 : goal.returns-else-this-eq1
returns-else-this-eq1 g c =
    let xs = c.args.bytes.now in
    let x = c.from-else-this-eq1 in
    let y = c.from-else-this-eq1-2 in
    let two : g.row.W ≡ 2 = omega (arith, c.if-this-eq1.false) in
    let z : 0 ≡ g.row.W * 0 = omega arith in
    let o : 1 ≡ g.row.W * 0 + 1 = omega arith in
    let high : x.result < 256 = omega (arith, x.ensures, c.type_inv.bytes 0) in
    let low : y.result < 256 = omega (arith, y.ensures, c.type_inv.bytes 1) in
    (word_two g.row.W xs 0 x.result y.result two (omega arith) (x.ensures ∙ ap (λ (i : ℕ). get_or xs i 0) z) (y.ensures ∙ ap (λ (i : ℕ). get_or xs i 0) o) high low, omega (arith, high, low))
