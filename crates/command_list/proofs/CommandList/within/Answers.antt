-- Of a list that has no entry in use nothing is left to judge but the number of accepted commands.
use Rattle.std.proofs.Common.{arith, le-leb, eqb-true, leb}
use Rattle.wire.specs.Lists.{keep}
use Rattle.wire.proofs.Lists.{and_left, and_right}
use Rattle.command_list.specs.CommandList.{most_commands, loads_in, command_list_within}
use Rattle.command_list.proofs.CommandList.within.Goals as goal

pub returns-then-self : goal.returns-then-self
unfolding command_list_within loads_in keep
returns-then-self c =
    let o = c.args.self.now in
    let t = c.if-self.true in
    let none = eqb-true o.waiters 0 (and_right (leb o.accepted most_commands) _ t) in
    simp (and_left (leb o.accepted most_commands) _ t, none, le-leb 0 o.accepted (omega arith))
