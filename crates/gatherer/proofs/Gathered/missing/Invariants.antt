-- `missing` has counted, after i turns, those of the first i that have not come.
use Rattle.std.proofs.Common.{◌≤◌, ◌≡◌, false, not, get_or}
use Rattle.wire.specs.Pieces.{count_of}
use Rattle.gatherer.proofs.Gathered.missing.Given as goal

abbrev pub invariant-loop-came : goal.invariant-loop-came
invariant-loop-came l = (l.n ≤ l.came-index) × (l.n ≡ count_of l.came-index (λ k. not (get_or l.self.came k false)))
