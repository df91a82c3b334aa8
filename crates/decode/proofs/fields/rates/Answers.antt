-- `rates` has filled, after i turns, the first i counts, and each code it reads is valid.
use Rattle.rate_code.specs.Editions.{least_of, valid_of}
use Rattle.wire.proofs.Pieces.{table_none, table_turn, table_end, each_at}
use Rattle.std.specs.Prelude.{refl}
use Rattle.std.proofs.Common.{◌∙◌, arith, length-set}
use Rattle.decode.specs.Read.{rates_of, codes_good}
use Rattle.decode.proofs.fields.rates.Goals as goal

pub loop-i-init : goal.loop-i-init
unfolding rates_of
loop-i-init c = (table_none _, refl)

pub least_count-requires : goal.least_count-requires
unfolding codes_good
least_count-requires c =
    (λ k. valid_of (c.from-edition.ensures k) (c.read-code.ensures k)) ∙ each_at _ _ c.loop-i.i (omega arith) c.requires.packet_value

pub loop-i-preserved : goal.loop-i-preserved
unfolding rates_of
loop-i-preserved c =
    let i = c.loop-i.i in (
      table_turn _ c.loop-i.counts i (omega arith) c.loop-i.invariant.0
          (c.least_count.ensures ∙ (λ k. least_of (c.from-edition.ensures k) (c.read-code.ensures k))),
      simp length-set c.loop-i.invariant.1,
    )

pub returns : goal.returns
unfolding rates_of
returns c = table_end _ c.loop-i.counts c.loop-i.i _ (omega arith) (omega arith) c.loop-i.invariant.1 c.loop-i.invariant.0
