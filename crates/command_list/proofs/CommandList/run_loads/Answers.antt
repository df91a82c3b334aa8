-- `run_loads` runs the waiting commands on the tables, one after the other.
use Rattle.std.proofs.Common.{◌≡◌, true, ◌+◌, drop, sym, ap, ◌∙◌, arith}
use Rattle.wire.specs.Lists.{all}
use Rattle.wire.proofs.Lists.{all_get}
use Rattle.command_list.specs.CommandList.{filler, given_at}
use Rattle.command_list.specs.Run.{tables_after_all}
use Rattle.command_list.proofs.CommandListLaws.{commands_are}
use Rattle.command_list.proofs.RunLaws.{tables_step, tables_end}
use Rattle.command_list.proofs.CommandList.run_loads.Goals as goal

pub run_command-requires : goal.run_command-requires
run_command-requires c =
    let g = given_at c.args.ranges in
    let e : all g c.in_use-waiting.result.now ≡ true =
    ap (all g) c.in_use-waiting.ensures.0 ∙ (commands_are c.args.self.now c.args.ranges c.requires).given in
    all_get g c.in_use-waiting.result.now filler c.loop-w.w-index (omega arith) e

pub loop-w-preserved : goal.loop-w-preserved
loop-w-preserved c =
    let s = c.args in
    let ws = c.in_use-waiting.result.now in
    let i = c.loop-w.w-index in
    ap (λ x. tables_after_all x s.staging.now s.ranges.reach (drop (i + 1) ws)) c.run_command.ensures
    ∙ tables_step s.staging.now s.ranges.reach c.loop-w.tables ws i (omega arith)
    ∙ c.loop-w.invariant

pub returns : goal.returns
returns c =
    let s = c.args in
    sym (tables_end s.staging.now s.ranges.reach c.loop-w.tables c.in_use-waiting.result.now c.loop-w.w-index (omega arith)) ∙ c.loop-w.invariant
    ∙ ap (tables_after_all s.tables.now s.staging.now s.ranges.reach) c.in_use-waiting.ensures.0
