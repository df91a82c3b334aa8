-- `run_loads` runs the waiting commands on the tables, one after the other.
use Rattle.std.proofs.Common.{◌≡◌, drop}
use Rattle.command_list.specs.Run.{tables_after_all}
use Rattle.command_list.proofs.CommandList.run_loads.Given as goal

abbrev pub invariant-loop-w : goal.invariant-loop-w
invariant-loop-w l =
    tables_after_all l.tables l.staging l.ranges.reach (drop l.w-index l.waiting)
    ≡ tables_after_all l.initial.tables l.staging l.ranges.reach l.waiting
