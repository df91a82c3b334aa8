-- After i turns `is_state` has judged the first i entries.
use Rattle.std.proofs.Common.{ℕ, ◌+◌, ◌*◌, Bool, List, ◌≡◌, get_or}
use Rattle.wire.specs.Bytes.{at32}
use Rattle.wire.specs.Pieces.{each}
use Rattle.image.specs.Layout.{entries_at, entry_bytes}
use Rattle.image.specs.Image.{entry_good}
use Rattle.image.proofs.judge.is_state.Given as goal

-- entry i is some command
abbrev pub right : List ℕ → ℕ → Bool
right b i =
    let at = entries_at + entry_bytes * i in entry_good (get_or b at 0) (at32 b (at + 1))

abbrev pub invariant-loop-entry : goal.invariant-loop-entry
invariant-loop-entry l = l.ok ≡ each l.entry-index (right l.image)
