-- The totals behind the index have their counts added, and the others are what they were.
use Rattle.std.proofs.Common.{◌≡◌, ℕ, ◌≤◌, ◌+◌, length, get_or, take}
use Rattle.wire.specs.Pieces.{table}
use Rattle.take_reading.proofs.add.Given as goal

abbrev pub invariant-loop-i : goal.invariant-loop-i
invariant-loop-i l =
    (length l.totals ≡ 8)
    × (take l.i l.totals ≡ table l.i (λ k. get_or l.fn.totals k 0 + get_or l.counts k 0))
    × ((k : ℕ) → l.i ≤ k → get_or l.totals k 0 ≡ get_or l.fn.totals k 0)
