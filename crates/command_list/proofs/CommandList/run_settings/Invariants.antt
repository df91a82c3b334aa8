-- `run_settings` runs the waiting commands on the settings, one after the other.
use Rattle.std.proofs.Common.{◌≡◌, drop}
use Rattle.command_list.specs.Run.{settings_after_all}
use Rattle.command_list.proofs.CommandList.run_settings.Given as goal

abbrev pub invariant-loop-w : goal.invariant-loop-w
invariant-loop-w l = settings_after_all l.t (drop l.w-index l.waiting) ≡ settings_after_all l.initial.t l.waiting
