-- The rate code in its first edition (document 01, "Packets"), that of the archive. Its laws are in proofs/Codes.antt; packets and
-- their reader go by Editions.antt. Assumes nothing.
use Rattle.std.specs.Prelude.{ℕ, zero, suc, ◌+◌, ◌*◌, ◌/◌, ◌%◌, ◌^◌, Bool, cond, ◌&&◌, ◌||◌, List, [], ◌∷◌, leb, ltb, eqb}

-- the counts that have a code are those below 2^24
abbrev pub count_limit : ℕ
count_limit = 16777216

-- the least of from, from + 1, .., from + k that passes the test; the last where none before it does
unfoldable pub least_from : (ℕ → Bool) → ℕ → ℕ → ℕ
least_from p from zero = from
least_from p from (suc k) = cond (p from) from (least_from p (suc from) k)

-- "s the least with quotient < 4,096", the quotient being floor(n / 2^s): 0 for n below 4,096, and at most 12
unfoldable pub shift : ℕ → ℕ
shift n = least_from (λ s. ltb (n / 2 ^ s) 4096) 0 12

-- "Rate code of n < 2^24: n below 4,096; else 4,096s + floor(n / 2^s)"
unfoldable pub rate_code : ℕ → ℕ
rate_code n = 4096 * shift n + n / 2 ^ shift n

-- "Its least count is quotient × 2^s"
unfoldable pub least_count : ℕ → ℕ
least_count c = (c % 4096) * 2 ^ (c / 4096)

-- not a "code with s ≥ 1 and quotient below 2,048 or s above 12"
unfoldable pub code_valid : ℕ → Bool
code_valid c = leb (c / 4096) 12 && (eqb (c / 4096) 0 || leb 2048 (c % 4096))

-- "Code*: 4,095 → 0FFF; 4,096 and 4,097 → 1800; 8,191 → 1FFF; 8,192 → 2800; 1,000,000 → 8F42; 16,777,215 → CFFF (hex)"
abbrev pub code_cases : List (ℕ × ℕ)
code_cases =
    (4095, 0x0FFF)
    ∷ (4096, 0x1800)
    ∷ (4097, 0x1800)
    ∷ (8191, 0x1FFF)
    ∷ (8192, 0x2800)
    ∷ (1000000, 0x8F42)
    ∷ (16777215, 0xCFFF)
    ∷ []
