-- The shift is the one that leaves twelve bits, a count's code is valid, and its least count is at most the count. Assumes nothing.
-- Other files go by the laws marked `pub`, and open no definition of specs/Rate.antt.
use Rattle.std.proofs.Common.{◌≡◌, refl, ◌⊎◌, Bool, true, false, ℕ, zero, suc, ◌+◌, ◌-◌, ◌*◌, ◌/◌, ◌%◌, ◌^◌, ◌≤◌, ◌<◌, ltb, eqb}
use Rattle.std.proofs.Common.{sym, ap, ◌∙◌, inl, inr, ⊎_elim, arith, mul-le-mul, mul-le-mul_right, mul-lt-mul_of_pos_right}
use Rattle.std.proofs.Common.{eq-or-lt_of_le, div-mul-le_self, mul-div_cancel, le-div_iff_mul-le, div-lt_iff_lt-mul, pow_pos}
use Rattle.std.proofs.Common.{pow_mono, pow-add, lt-ltb, le-ltb, ltb-true, ltb-false, leb-true, le-leb, eqb-true}
use lib.Count.{leading_top}
use Rattle.std.proofs.Math.Bool.{or-true}
use Rattle.std.proofs.Math.Nat.{pow-succ'}
use Rattle.std.specs.Int.Count.{count_leading_zeros}
use Rattle.wire.proofs.Lists.{and_split, or_split}
use Rattle.rate_code.specs.Laws.{CodeLaws}
use Rattle.rate_code.specs.Rate.{count_limit, least_from, shift, rate_code, least_count, code_valid}

-- ---- the shift

-- the least number that passes a test is the one that passes it, where none before does
pub least_is : (p : ℕ → Bool) (k from s : ℕ) → from ≤ s → s ≤ from + k → p s ≡ true → ((j : ℕ) → from ≤ j → j < s → p j ≡ false)
    → least_from p from k ≡ s
unfolding least_from
least_is p zero from s a b t none = omega arith
least_is p (suc k) from s a b t none =
    ⊎_elim
    (λ (q : from ≡ s). rw (ap p q ∙ t) q)
    (λ (q : from < s).
    rw (none from (omega arith) q) (least_is p k (suc from) s q (omega arith) t (λ j g l. none j (omega arith) l)))
    (eq-or-lt_of_le a)

-- "s the least with quotient < 4,096"
shift_is : (n s : ℕ) → s ≤ 12 → n / 2 ^ s < 4096 → ((j : ℕ) → j < s → 4096 ≤ n / 2 ^ j) → shift n ≡ s
unfolding shift
shift_is n s h q none =
    least_is _ 12 0 s (omega arith) (omega arith) (lt-ltb _ _ q) (λ j g l. le-ltb _ _ (none j l))

shift_low : (n : ℕ) → n < 4096 → shift n ≡ 0
shift_low n h = shift_is n 0 (omega arith) (omega arith) (λ j l. absurd (omega arith))

-- a count of s + 12 bits has the shift s
shift_bits : (n s : ℕ) → s ≤ 12 → 2048 * 2 ^ s ≤ n → n < 4096 * 2 ^ s → shift n ≡ s
shift_bits n s h a b =
    shift_is n s h ((div-lt_iff_lt-mul (pow_pos s)).1 b) (λ j l.
    let m : 2 ^ suc j ≤ 2 ^ s = pow_mono l in
    (le-div_iff_mul-le (pow_pos j)).1 (omega (arith, pow-succ' 2 j)))

-- a count from 4,096 on, by the zeros above its highest bit
pub record Bits (n z : ℕ) : Type 0 where
  pub room : z ≤ 20
  pub small : 20 - z ≤ 12
  pub low : n / 2 ^ (20 - z) < 4096
  pub high : 2048 ≤ n / 2 ^ (20 - z)
  pub shifted : shift n ≡ 20 - z
  pub from : 2048 * 2 ^ (20 - z) ≤ n
  pub below : n < 4096 * 2 ^ (20 - z)

order_by : (i j : ℕ) → 2 ^ i < 2 ^ j → (b : Bool) → ltb i j ≡ b → i < j
order_by i j h true e = ltb-true i j e
order_by i j h false e = let m : 2 ^ j ≤ 2 ^ i = pow_mono (ltb-false i j e) in absurd (omega arith)

-- the order of two powers is that of their exponents
order : (i j : ℕ) → 2 ^ i < 2 ^ j → i < j
order i j h = order_by i j h (ltb i j) refl

bits_at : (n z j : ℕ) → n < count_limit → 4096 ≤ n → z + suc j ≡ 32 → 2 ^ j ≤ n → n < 2 ^ suc j → Bits n z
bits_at n z j h g e a b =
    let m : 12 < suc j = order 12 (suc j) (omega arith) in
    let k : j < 24 = order j 24 (omega arith) in
    let s : ℕ = 20 - z in
    let js : 11 + s ≡ j = omega arith in
    let pj : 2 ^ j ≡ 2048 * 2 ^ s = ap (λ (i : ℕ). 2 ^ i) (sym js) ∙ pow-add 2 11 s in
    let lo : 2048 * 2 ^ s ≤ n = omega arith in
    let hi : n < 4096 * 2 ^ s = omega (arith, pow-succ' 2 j) in
    record {
      room = omega arith;
      small = omega arith;
      low = (div-lt_iff_lt-mul (pow_pos s)).1 hi;
      high = (le-div_iff_mul-le (pow_pos s)).1 lo;
      shifted = shift_bits n s (omega arith) lo hi;
      from = lo;
      below = hi;
    }

pub bits : (n : ℕ) → n < count_limit → 4096 ≤ n → Bits n (count_leading_zeros 32 n)
bits n h g =
    let t = leading_top 32 n (omega arith) (omega arith) in
    bits_at n (count_leading_zeros 32 n) t.0 h g t.1 t.2 t.3

-- any count's shift, and its quotient, which has twelve bits where the shift is not 0
record Shifted (n : ℕ) : Type 0 where
  small : shift n ≤ 12
  low : n / 2 ^ shift n < 4096
  high : (shift n ≡ 0) ⊎ (2048 ≤ n / 2 ^ shift n)

shifted_by : (n : ℕ) → n < count_limit → (b : Bool) → ltb n 4096 ≡ b → Shifted n
shifted_by n h true q =
    let e : shift n ≡ 0 = shift_low n (ltb-true n 4096 q) in
    record { small = rw e (omega arith); low = rw e (omega (arith, ltb-true n 4096 q)); high = inl e }
shifted_by n h false q =
    let t = bits n h (ltb-false n 4096 q) in
    let e = t.shifted in
    record { small = rw e t.small; low = rw e t.low; high = inr (rw e t.high) }

shifted : (n : ℕ) → n < count_limit → Shifted n
shifted n h = shifted_by n h (ltb n 4096) refl

-- ---- the code

pub code_low : (n : ℕ) → n < 4096 → rate_code n ≡ n
unfolding rate_code
code_low n h = rw (shift_low n h) (omega arith)

pub code_bits : (n z : ℕ) → Bits n z → rate_code n ≡ 4096 * (20 - z) + n / 2 ^ (20 - z)
unfolding rate_code
code_bits n z t = rw t.shifted

-- the two parts of a code
code_shift : (n : ℕ) → n < count_limit → rate_code n / 4096 ≡ shift n
unfolding rate_code
code_shift n h = omega (arith, (shifted n h).low)

code_quotient : (n : ℕ) → n < count_limit → rate_code n % 4096 ≡ n / 2 ^ shift n
unfolding rate_code
code_quotient n h = omega (arith, (shifted n h).low)

-- a code fits 16 bits
pub code_fits : (n : ℕ) → n < count_limit → rate_code n < 65536
unfolding rate_code
code_fits n h = omega (arith, shifted n h)

-- what counts have are valid codes
pub code_valid_lem : (n : ℕ) → n < count_limit → code_valid (rate_code n) ≡ true
unfolding code_valid
code_valid_lem n h =
    let t = shifted n h in
    rw (code_shift n h, code_quotient n h, le-leb (shift n) 12 t.small)
    (⊎_elim
    (λ (e : shift n ≡ 0). rw e)
    (λ (g : 2048 ≤ n / 2 ^ shift n). rw (le-leb _ _ g) (or-true (eqb (shift n) 0)))
    t.high)

-- the least count of a count's code is the count without the bits that were shifted out
pub least_cut : (n : ℕ) → n < count_limit → least_count (rate_code n) ≡ n / 2 ^ shift n * 2 ^ shift n
unfolding least_count
least_cut n h = rw (code_shift n h, code_quotient n h)

-- so it is at most the count
pub least_le : (n : ℕ) → n < count_limit → least_count (rate_code n) ≤ n
least_le n h = rw (least_cut n h) (div-mul-le_self n (2 ^ shift n))

-- ---- a valid code

pub record Parts (c : ℕ) : Type 0 where
  pub small : c / 4096 ≤ 12
  pub high : (c / 4096 ≡ 0) ⊎ (2048 ≤ c % 4096)

pub parts : (c : ℕ) → code_valid c ≡ true → Parts c
unfolding code_valid
parts c h =
    let t = and_split _ _ h in
    record {
      small = leb-true (c / 4096) 12 t.0;
      high = ⊎_elim (λ e. inl (eqb-true (c / 4096) 0 e)) (λ e. inr (leb-true 2048 (c % 4096) e)) (or_split _ _ t.1);
    }

pub least_below : (c : ℕ) → code_valid c ≡ true → least_count c < count_limit
unfolding least_count
least_below c h =
    let q : c % 4096 ≤ 4095 = omega arith in
    let p : 2 ^ (c / 4096) ≤ 2 ^ 12 = pow_mono (parts c h).small in
    omega (arith, mul-le-mul q p)

shift_again : (c : ℕ) → code_valid c ≡ true → (c / 4096 ≡ 0) ⊎ (2048 ≤ c % 4096) → shift (least_count c) ≡ c / 4096
unfolding least_count
shift_again c h (inl e) = rw e (shift_low _ (omega arith))
shift_again c h (inr g) =
    let s : ℕ = c / 4096 in
    let q : c % 4096 < 4096 = omega arith in
    shift_bits (c % 4096 * 2 ^ s) s (parts c h).small (mul-le-mul_right (2 ^ s) g) (mul-lt-mul_of_pos_right q (pow_pos s))

-- a valid code is that of its least count
pub valid_again : (c : ℕ) → code_valid c ≡ true → rate_code (least_count c) ≡ c
unfolding rate_code least_count
valid_again c h =
    let s : ℕ = c / 4096 in
    ap (λ (t : ℕ). 4096 * t + c % 4096 * 2 ^ s / 2 ^ t) (shift_again c h (parts c h).high)
    ∙ ap (λ (x : ℕ). 4096 * s + x) (mul-div_cancel (c % 4096) (pow_pos s))
    ∙ omega arith

-- so the least count of a count's code has that code too
pub code_again : (n : ℕ) → n < count_limit → rate_code (least_count (rate_code n)) ≡ rate_code n
code_again n h = valid_again (rate_code n) (code_valid_lem n h)

-- the laws of an edition
pub code_laws : CodeLaws rate_code least_count code_valid
code_laws = record {
  fits = code_fits;
  coded = code_valid_lem;
  at_most = least_le;
  again = code_again;
  below = least_below;
  valid_again = valid_again;
}
