-- Counts of zeros may count an event.
use Rattle.std.proofs.Common.{arith}
use Rattle.wire.proofs.Lists.{each_zeros}
use Rattle.boxes.specs.Boxes.{box_count}
use Rattle.sort_cases.proofs.show_sorted.Goals as goal

pub count-requires-clause-each_below : goal.count-requires-clause-each_below
count-requires-clause-each_below c = each_zeros 1000000 box_count (omega arith)
