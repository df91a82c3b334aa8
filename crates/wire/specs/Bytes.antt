-- Runs of bytes in a list, and numbers in them, the most significant byte first (document 01, first paragraph). Assumes nothing.
use Rattle.std.specs.Prelude.{ℕ, ◌+◌, ◌*◌, ◌/◌, ◌%◌, List, [], ◌∷◌, ◌++◌, length, take, drop, get_or, replicate}

-- a list of one byte
abbrev pub one : ℕ → List ℕ
one v = v ∷ []

-- n zeros
abbrev pub zeros : ℕ → List ℕ
zeros n = replicate n 0

-- the bytes of v: two, three, four
abbrev pub be16 : ℕ → List ℕ
be16 v = v / 256 ∷ v % 256 ∷ []

abbrev pub be24 : ℕ → List ℕ
be24 v = v / 65536 ∷ v / 256 % 256 ∷ v % 256 ∷ []

abbrev pub be32 : ℕ → List ℕ
be32 v = v / 16777216 ∷ v / 65536 % 256 ∷ v / 256 % 256 ∷ v % 256 ∷ []

-- the number in the bytes from `at` on: one, two, three, four
abbrev pub at8 : List ℕ → ℕ → ℕ
at8 xs at = get_or xs at 0

abbrev pub at16 : List ℕ → ℕ → ℕ
at16 xs at = 256 * get_or xs at 0 + get_or xs (at + 1) 0

abbrev pub at24 : List ℕ → ℕ → ℕ
at24 xs at = 65536 * get_or xs at 0 + 256 * get_or xs (at + 1) 0 + get_or xs (at + 2) 0

abbrev pub at32 : List ℕ → ℕ → ℕ
at32 xs at =
    16777216 * get_or xs at 0 + 65536 * get_or xs (at + 1) 0 + 256 * get_or xs (at + 2) 0 + get_or xs (at + 3) 0

-- each word in four bytes, one after the other
unfoldable pub words : List ℕ → List ℕ
words [] = []
words (w ∷ ws) = be32 w ++ words ws

-- xs with vs in the place of the elements from index `at` on
unfoldable pub put : List ℕ → ℕ → List ℕ → List ℕ
put xs at vs = take at xs ++ vs ++ drop (at + length vs) xs

-- the sum of the list's numbers
unfoldable pub total : List ℕ → ℕ
total [] = 0
total (x ∷ xs) = x + total xs
