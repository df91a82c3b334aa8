-- What `all_good` has found and what the slots ahead hold are together what all slots hold.
use Rattle.std.proofs.Common.{◌&&◌, ◌≡◌, drop}
use Rattle.wire.specs.Lists.{all}
use Rattle.sample_record.specs.Record.{record_good}
use Rattle.samples.proofs.at_close.all_good.Given as goal

abbrev pub invariant-loop-slot : goal.invariant-loop-slot
invariant-loop-slot l = (l.ok && all record_good (drop l.slot-index l.slots)) ≡ all record_good l.slots
