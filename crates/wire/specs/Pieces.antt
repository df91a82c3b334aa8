-- Lists made of numbered or equal pieces, or filled up to a length. Assumes nothing.
use Rattle.std.specs.Prelude.{ℕ, zero, suc, ◌+◌, ◌-◌, Bool, true, ◌&&◌, List, [], ◌∷◌, ◌++◌, length, replicate}
use Rattle.wire.specs.Bits.{bit_of}
use Rattle.wire.specs.Bytes.{one}

-- the pieces of the list's elements, one after the other
unfoldable pub runs : (ℕ → List ℕ) → List ℕ → List ℕ
runs piece [] = []
runs piece (x ∷ xs) = piece x ++ runs piece xs

-- f 0, f 1, .., f (n - 1)
unfoldable pub table : ℕ → (ℕ → ℕ) → List ℕ
table zero f = []
table (suc n) f = table n f ++ one (f n)

-- each of 0, 1, .., n - 1 passes the test
unfoldable pub each : ℕ → (ℕ → Bool) → Bool
each zero p = true
each (suc n) p = each n p && p n

-- how many of 0, 1, .., n - 1 pass the test
unfoldable pub count_of : ℕ → (ℕ → Bool) → ℕ
count_of zero p = 0
count_of (suc n) p = count_of n p + bit_of (p n)

-- the list with x behind it, n elements in all
abbrev pub filled_up : {A : Type 0} → ℕ → A → List A → List A
filled_up n x l = l ++ replicate (n - length l) x

-- the list with zeros behind it, n numbers in all
unfoldable pub padded : ℕ → List ℕ → List ℕ
padded n l = filled_up n 0 l
