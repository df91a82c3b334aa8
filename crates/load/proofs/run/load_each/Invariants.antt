-- After k turns `load_each` has put the first k words.
use Rattle.std.proofs.Common.{◌≡◌}
use Rattle.wire.specs.Bytes.{put}
use Rattle.load.specs.Load.{packed_words}
use Rattle.load.proofs.run.load_each.Given as goal

abbrev pub invariant-loop-k : goal.invariant-loop-k
invariant-loop-k g l = l.tables ≡ put l.initial.tables l.at (packed_words g.row.W l.bytes l.k)
