-- What holds of every edition of the rate code (document 01, "Packets"; document 02, Point 5). Assumes nothing.
use Rattle.std.specs.Prelude.{◌≡◌, ℕ, ◌≤◌, ◌<◌, Bool, true}
use Rattle.rate_code.specs.Rate.{count_limit}

pub record CodeLaws (code least : ℕ → ℕ) (valid : ℕ → Bool) : Type 0 where
  -- what counts have are valid codes of 16 bits
  pub fits : (n : ℕ) → n < count_limit → code n < 65536
  pub coded : (n : ℕ) → n < count_limit → valid (code n) ≡ true
  -- the least count of a count's code is at most the count, and has that code again
  pub at_most : (n : ℕ) → n < count_limit → least (code n) ≤ n
  pub again : (n : ℕ) → n < count_limit → code (least (code n)) ≡ code n
  -- the least count of a valid code is a count, and has that code
  pub below : (c : ℕ) → valid c ≡ true → least c < count_limit
  pub valid_again : (c : ℕ) → valid c ≡ true → code (least c) ≡ c
