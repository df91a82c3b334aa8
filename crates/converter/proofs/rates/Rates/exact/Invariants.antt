-- `exact` has tested, after i turns, the first i rates.
use Rattle.std.proofs.Common.{◌≡◌}
use Rattle.rate_code.specs.Editions.{first_mark}
use Rattle.converter.specs.Convert.{rates_exact}
use Rattle.converter.proofs.rates.Rates.exact.Given as goal

abbrev pub invariant-loop-i : goal.invariant-loop-i
invariant-loop-i l = l.all ≡ rates_exact first_mark l.i l.self.packet.now
