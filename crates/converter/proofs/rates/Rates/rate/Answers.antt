-- The code read is one of the packet's edition, and so its least count is below the limit.
use Rattle.std.proofs.Common.{◌∙◌, arith}
use Rattle.wire.proofs.Pieces.{each_at}
use Rattle.rate_code.specs.Editions.{least_of, valid_of}
use Rattle.rate_code.proofs.EditionLaws.{by_below}
use Rattle.decode.specs.Read.{mark_of, code_at, codes_good}
use Rattle.converter.proofs.rates.Rates.rate.Goals as goal

pub least_count-requires : goal.least_count-requires
unfolding codes_good
least_count-requires c =
    let s = c.args.self.now in
    (λ k. valid_of (c.from.ensures k) (c.read-code.ensures k)) ∙ each_at _ s.n c.args.i c.requires s.good

pub returns : goal.returns
unfolding codes_good
returns c =
    let s = c.args.self.now in
    let mark = mark_of s.packet.now in
    let e = c.least_count.ensures ∙ (λ k. least_of (c.from.ensures k) (c.read-code.ensures k)) in
    (e, omega (arith, e, by_below mark (code_at s.packet.now c.args.i) (each_at _ s.n c.args.i c.requires s.good)))
