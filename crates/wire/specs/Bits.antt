-- Single bits. Assumes nothing.
use Rattle.std.specs.Prelude.{ℕ, ◌+◌, ◌-◌, ◌/◌, ◌%◌, ◌^◌, Bool, cond, eqb}

-- a flag as a bit
abbrev pub bit_of : Bool → ℕ
bit_of b = cond b 1 0

-- whether the bit with this value is set in the byte
abbrev pub is_set : (byte value : ℕ) → Bool
is_set byte value = eqb (byte / value % 2) 1

-- whether bit k of the byte is set, the lowest being bit 0
abbrev pub bit_at : (byte k : ℕ) → Bool
bit_at byte k = is_set byte (2 ^ k)

-- the byte with bit k set or cleared
abbrev pub with_bit : (byte k : ℕ) → Bool → ℕ
with_bit byte k b = cond (bit_at byte k) (cond b byte (byte - 2 ^ k)) (cond b (byte + 2 ^ k) byte)
