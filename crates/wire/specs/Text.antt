-- Texts and digits as bytes. Assumes nothing.
use Rattle.std.specs.Prelude.{ℕ, ◌+◌, ◌-◌, ◌/◌, ◌%◌, cond, List, [], ◌∷◌, leb}
use Prim.Native.Char.{code}
use Prim.Native.String.{String}

-- the bytes of a text
abbrev pub text : String → List ℕ
text String.[] = []
text (String.◌∷◌ c s) = code c ∷ text s

-- a digit 0-9 a-f
abbrev pub hex_digit : ℕ → ℕ
hex_digit d = cond (leb d 9) (code "0" + d) (code "a" + (d - 10))

-- a byte in two digits
abbrev pub hex2 : ℕ → List ℕ
hex2 v = hex_digit (v / 16) ∷ hex_digit (v % 16) ∷ []
