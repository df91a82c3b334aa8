-- In the end `filled` has counted all slots.
use Rattle.std.proofs.Common.{◌≡◌, ◌∙◌, arith, count_by, ltb}
use Rattle.std.proofs.lemmas.Grind.{common_steps}
use Rattle.samples.proofs.SampleLaws.{filled_count}
use Rattle.samples.proofs.at_close.filled.Goals as goal

pub returns : goal.returns
returns c =
    let e : c.loop-slot.count ≡ count_by (ltb 0) c.args.slots.now = grind (arith, common_steps) in
    e ∙ filled_count c.args.slots.now
