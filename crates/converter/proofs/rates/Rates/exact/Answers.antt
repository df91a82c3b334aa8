-- `exact` has tested, after i turns, the first i rates.
use Rattle.std.proofs.Common.{ap, ◌∙◌}
use Rattle.wire.proofs.Pieces.{each_start, each_turn}
use Rattle.rate_code.specs.Editions.{first_mark, exact_by}
use Rattle.converter.specs.Convert.{rates_exact}
use Rattle.converter.proofs.rates.Rates.exact.Goals as goal

pub loop-i-init : goal.loop-i-init
unfolding rates_exact
loop-i-init c = each_start _

pub loop-i-preserved : goal.loop-i-preserved
unfolding rates_exact
loop-i-preserved c =
    each_turn _ c.loop-i.i c.loop-i.invariant (c.exact-all.ensures ∙ ap (exact_by first_mark) c.rate.ensures.0)
