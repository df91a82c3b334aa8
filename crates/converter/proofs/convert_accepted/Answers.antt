-- A packet that the reader takes has its rates before the frame, and their codes are ones that counts have.
use Rattle.std.proofs.Common.{ℕ, arith, ap, sym, ◌∙◌}
use Rattle.decode.specs.Read.{codes_good, kind_of, application_of}
use Rattle.converter.specs.Convert.{rates_in}
use Rattle.converter.proofs.Recoded.{rates_fit}
use Rattle.converter.proofs.Converts.{rates_good}
use Rattle.converter.proofs.convert_accepted.Goals as goal

pub invariant_of-rates : goal.invariant_of-rates
invariant_of-rates c =
    let xs = c.args.accepted.packet.now in
    let e = ap rates_in c.args.accepted.kind_is ∙ sym c.rates_in-n.ensures in
    record {
      fits = omega (arith, rates_fit (kind_of (application_of xs)), e);
      good = ap (λ (n : ℕ). codes_good n xs) (sym e) ∙ rates_good xs c.args.accepted.taken;
    }
