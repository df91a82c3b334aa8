-- `zeros_good` has tested, after i turns, the first i bytes.
use Rattle.std.specs.Prelude.{ℕ, ◌+◌, ◌-◌, eqb, drop}
use Rattle.std.proofs.Common.{ap, ◌∙◌, arith}
use Rattle.std.proofs.lemmas.List.{get_or-take, get_or-drop}
use Rattle.decode.specs.Read.{zeros_good}
use Rattle.wire.proofs.Pieces.{each_start, each_turn}
use Rattle.decode.proofs.faults.zeros_good.Goals as goal

pub loop-byte-init : goal.loop-byte-init
unfolding zeros_good
loop-byte-init c = each_start _

pub loop-byte-preserved : goal.loop-byte-preserved
unfolding zeros_good
loop-byte-preserved c =
    let a = c.args in
    let i = c.loop-byte.byte-index in
    each_turn _ i c.loop-byte.invariant
    (ap (λ (x : ℕ). eqb x 0)
    (get_or-take (a.at + a.n - a.at) (drop a.at a.packet.now) i 0 (omega arith) ∙ get_or-drop a.at a.packet.now i 0))
