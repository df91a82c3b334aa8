-- `add_row` has added, after j turns, the first j bytes of the row, and left the other columns as they were.
use Rattle.std.proofs.Common.{ℕ, ◌≤◌, ◌+◌, ◌≡◌, length, get_or, take}
use Rattle.wire.specs.Pieces.{table}
use Rattle.packet.proofs.table_sum.add_row.Given as goal

abbrev pub invariant-loop-j : goal.invariant-loop-j
invariant-loop-j l = (length l.columns ≡ 48) × (take l.j l.columns ≡ table l.j (λ k. get_or l.initial.columns k 0 + get_or l.block (l.at + k) 0))
    × ((k : ℕ) → l.j ≤ k → get_or l.columns k 0 ≡ get_or l.initial.columns k 0)
