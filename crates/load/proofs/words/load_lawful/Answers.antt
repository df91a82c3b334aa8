-- `load_lawful` tests the way to pack, the reach and both ends of the load, as the definition does.
use Rattle.std.proofs.Common.{sym, ◌∙◌}
use Rattle.load.specs.Load.{load_lawful}
use Rattle.load.proofs.LoadLaws.{packing_none, packing_is, packing_small}
use Rattle.load.proofs.words.load_lawful.Goals as goal

pub returns-in_default : goal.returns-in_default
unfolding load_lawful
returns-in_default c = rw (packing_none c.args.y (sym c.of.ensures ∙ c.in_default.is))

pub returns : goal.returns
unfolding load_lawful
returns c =
    let p = c.in-Some.packing in
    rw (packing_is c.args.y p (sym c.of.ensures ∙ c.in-Some.is), packing_small p, c.words.ensures)
