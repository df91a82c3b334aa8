-- `run_settings` runs the waiting commands on the settings, one after the other.
use Rattle.std.proofs.Common.{◌+◌, drop, sym, ap, ◌∙◌, arith}
use Rattle.command_list.specs.Run.{settings_after_all}
use Rattle.command_list.proofs.RunLaws.{settings_step, settings_end}
use Rattle.command_list.proofs.CommandList.run_settings.Goals as goal

pub loop-w-preserved : goal.loop-w-preserved
loop-w-preserved c =
    let ws = c.in_use-waiting.result.now in
    let i = c.loop-w.w-index in
    ap (λ t. settings_after_all t (drop (i + 1) ws)) c.applied_to_copy-t.ensures ∙ settings_step c.loop-w.t ws i (omega arith) ∙ c.loop-w.invariant

pub returns : goal.returns
returns c =
    sym (settings_end c.loop-w.t c.in_use-waiting.result.now c.loop-w.w-index (omega arith)) ∙ c.loop-w.invariant
    ∙ ap (settings_after_all c.args.settings) c.in_use-waiting.ensures.0
