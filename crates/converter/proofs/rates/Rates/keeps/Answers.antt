-- On the way to the second edition every rate is kept.
use Rattle.std.proofs.Common.{sym, ap, ◌∙◌, not}
use Rattle.rate_code.specs.declared.editions.Edition.{Edition}
use Rattle.rate_code.specs.Editions.{is_first, mark_in}
use Rattle.converter.proofs.Converts.{other_edition, exact_there}
use Rattle.converter.proofs.rates.Rates.keeps.Goals as goal

pub returns-in-Second : goal.returns-in-Second
returns-in-Second c =
    let s = c.args.self.now in
    let w = mark_in c.args.wanted in
    let f = ap (λ (e : Edition). is_first (mark_in e)) c.in-Second.is in
    sym (exact_there w s.n s.packet.now f (other_edition w s.packet.now c.requires ∙ ap not f) s.good)
