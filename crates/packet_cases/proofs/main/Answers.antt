-- `main` lends `fill_counts` zeros, which stand below 2^24 as all counts that have codes.
use Rattle.std.proofs.Common.{arith}
use Rattle.wire.proofs.Lists.{each_zeros}
use Rattle.rate_code.specs.Rate.{count_limit}
use Rattle.boxes.specs.Boxes.{box_count}
use Rattle.packet_cases.proofs.main.Goals as goal

pub fill_counts-requires-clause-each_below : goal.fill_counts-requires-clause-each_below
fill_counts-requires-clause-each_below c = each_zeros count_limit box_count (omega arith)
