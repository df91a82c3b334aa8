-- The second edition of the rate code (document 02, Point 5). Its laws are in proofs/SecondCodes.antt. Assumes nothing.
use Rattle.std.specs.Prelude.{ℕ, ◌+◌, ◌-◌, ◌*◌, ◌/◌, ◌%◌, ◌^◌, Bool, cond, List, [], ◌∷◌, ltb}
use Rattle.rate_code.specs.Rate.{least_from}

-- "e so that 2^(11+e) ≤ n < 2^(12+e)", of a count from 4,096 on: the least from 1 on that passes the second test
unfoldable pub exponent : ℕ → ℕ
exponent n = least_from (λ e. ltb n (2 ^ (12 + e))) 1 11

-- "Below 4,096 the code stays n. From 4,096 on .. the code is 4,096e + floor(n / 2^(e−1)) − 4,096"
unfoldable pub second_code : ℕ → ℕ
second_code n = cond (ltb n 4096) n (4096 * exponent n + n / 2 ^ (exponent n - 1) - 4096)

-- the least count that has the code: with e = c / 4,096 and m = c mod 4,096, (m + 4,096) × 2^(e−1)
unfoldable pub second_least : ℕ → ℕ
second_least c = cond (ltb c 4096) c ((c % 4096 + 4096) * 2 ^ (c / 4096 - 1))

-- "those from D000 hex on being wrong in the second"
unfoldable pub second_valid : ℕ → Bool
second_valid c = ltb c 0xD000

-- "So 4,096 becomes 1000 hex, 8,192 2000 and 1,000,000 8E84"
abbrev pub second_cases : List (ℕ × ℕ)
second_cases = (4096, 0x1000) ∷ (8192, 0x2000) ∷ (1000000, 0x8E84) ∷ []
