-- Buffered input. Assumes nothing.
use Rattle.std.specs.Prelude.{ℕ, List, ◌≡◌, length, take}

-- the new bytes begin with the old ones: none of them is lost or changed
abbrev pub Begins : (old new : List ℕ) → Type 0
Begins old new = take (length old) new ≡ old

-- the length of the buffer: no record is longer
abbrev pub input_bytes : ℕ
input_bytes = 131072
