-- `put_each` has put, after i turns, the bits of the first i staged bytes.
use Rattle.std.proofs.Common.{ℕ, ◌+◌, List, length, refl, ap, ◌∙◌, add-one, length-set}
use Rattle.load.specs.Bitmap.{with_bad, bitmap_after}
use Rattle.load.proofs.bitmap.put_each.Goals as goal

pub loop-i-init : goal.loop-i-init
unfolding bitmap_after
loop-i-init c = (refl, refl)

pub loop-i-preserved : goal.loop-i-preserved
unfolding bitmap_after
loop-i-preserved c =
    let a = c.args in
    let e = c.put_bit.ensures in (
      rw add-one (e ∙ ap (λ (x : List ℕ). with_bad x (a.next + c.loop-i.i) a.bad) c.loop-i.invariant.0),
      ap length e ∙ length-set c.loop-i.bitmap _ _ ∙ c.loop-i.invariant.1,
    )
