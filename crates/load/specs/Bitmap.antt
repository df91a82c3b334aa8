-- Which staged bytes are bad (document 02, Point 4: "no byte below the reach was last written by a package with a wrong sum"). The
-- lent bitmap has one bit for each staged byte. Assumes nothing.
use Rattle.std.specs.Prelude.{ℕ, zero, suc, ◌+◌, ◌/◌, ◌%◌, Bool, not, List, get_or, set, take}
use Rattle.wire.specs.Bits.{bit_at, with_bit}
use Rattle.wire.specs.Bytes.{total}
use Rattle.wire.specs.Pieces.{each}

-- 62,985 bits
abbrev pub bitmap_bytes : ℕ
bitmap_bytes = 7874

-- whether staged byte i is bad: bit i mod 8 of byte i / 8
abbrev pub is_bad : (bitmap : List ℕ) (i : ℕ) → Bool
is_bad bitmap i = bit_at (get_or bitmap (i / 8) 0) (i % 8)

-- the bitmap with the bit of staged byte i set or cleared
abbrev pub with_bad : (bitmap : List ℕ) (i : ℕ) → Bool → List ℕ
with_bad bitmap i bad = set bitmap (i / 8) (with_bit (get_or bitmap (i / 8) 0) (i % 8) bad)

-- the bitmap after a package that wrote n bytes from `next` on, with a wrong sum or a right one
unfoldable pub bitmap_after : (bitmap : List ℕ) (next n : ℕ) → Bool → List ℕ
bitmap_after bitmap next zero bad = bitmap
bitmap_after bitmap next (suc n) bad = with_bad (bitmap_after bitmap next n bad) (next + n) bad

-- no byte below the reach is bad
abbrev pub none_bad : (bitmap : List ℕ) (reach : ℕ) → Bool
none_bad bitmap reach = each reach (λ i. not (is_bad bitmap i))

-- "those bytes' sum": of the bytes lent below the reach
abbrev pub staged_sum : (staging : List ℕ) (reach : ℕ) → ℕ
staged_sum staging reach = total (take reach staging)
