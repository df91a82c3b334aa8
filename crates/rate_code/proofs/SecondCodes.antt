-- A second-edition code fits 16 bits and is below D000, its least count is at most the count and has that code again, every code below
-- D000 is that of its least count, and the edition is never coarser than the first. Assumes nothing.
use Rattle.std.specs.Prelude.{◌≡◌, true, ℕ, suc, ◌+◌, ◌-◌, ◌*◌, ◌/◌, ◌%◌, ◌^◌, ◌≤◌, ◌<◌, ltb}
use Rattle.std.proofs.Common.{sym, ap, ◌∙◌, ⊎_elim, arith, mul_assoc, mul-le-mul, mul-le-mul_right, mul-lt-mul_of_pos_right}
use Rattle.std.proofs.Common.{div-mul-le_self, mul-div_cancel, le-div_iff_mul-le, div-lt_iff_lt-mul, pow_pos, pow_mono, pow-add}
use Rattle.std.proofs.Common.{lt-ltb, le-ltb, ltb-true, ltb-false}
use Rattle.std.proofs.Math.Nat.{pow-succ'}
use Rattle.std.specs.Int.Count.{count_leading_zeros}
use Rattle.wire.proofs.Lists.{decide}
use Rattle.rate_code.specs.Laws.{CodeLaws}
use Rattle.rate_code.specs.Rate.{count_limit, rate_code, least_count, code_valid}
use Rattle.rate_code.specs.Second.{exponent, second_code, second_least, second_valid}
use Rattle.rate_code.proofs.Codes.{least_is, bits, least_cut, least_le, parts}

-- ---- a count from 4,096 on

-- "2^(11+e) ≤ n < 2^(12+e)", in multiples of 2^(e−1)
pub record Spread (n e : ℕ) : Type 0 where
  pub least : 1 ≤ e
  pub most : e ≤ 12
  pub from : 4096 * 2 ^ (e - 1) ≤ n
  pub below : n < 8192 * 2 ^ (e - 1)

halved : (e : ℕ) → 1 ≤ e → 2 ^ e ≡ 2 * 2 ^ (e - 1)
halved e h = let k : suc (e - 1) ≡ e = omega (arith, h) in ap (λ (i : ℕ). 2 ^ i) (sym k) ∙ pow-succ' 2 (e - 1)

module _ (n e : ℕ) (s : Spread n e) where
  upper : 2 ^ (12 + e) ≡ 8192 * 2 ^ (e - 1)
  upper = pow-add 2 12 e ∙ omega (arith, halved e s.least)

  exponent_is : exponent n ≡ e
  unfolding exponent
  exponent_is =
      least_is (λ i. ltb n (2 ^ (12 + i))) 11 1 e s.least (omega (arith, s.most)) (lt-ltb n (2 ^ (12 + e)) (rw upper s.below))
      (λ j g l. le-ltb n (2 ^ (12 + j)) (lower j g l))
    where
      lower : (j : ℕ) → 1 ≤ j → j < e → 2 ^ (12 + j) ≤ n
      lower j g l =
          let k : 12 + j ≤ 11 + e = omega (arith, l) in
          let m : 2 ^ (12 + j) ≤ 2 ^ (11 + e) = pow_mono k in
          omega (arith, m, pow-add 2 11 e, halved e s.least, s.from)

  pub low : n / 2 ^ (e - 1) < 8192
  low = (div-lt_iff_lt-mul (pow_pos (e - 1))).1 s.below

  pub high : 4096 ≤ n / 2 ^ (e - 1)
  high = (le-div_iff_mul-le (pow_pos (e - 1))).1 s.from

  pub many : 4096 ≤ n
  many = omega (arith, s.from, pow_pos (e - 1))

  pub code_spread : second_code n ≡ 4096 * e + n / 2 ^ (e - 1) - 4096
  unfolding second_code
  code_spread = rw (le-ltb n 4096 many, exponent_is)

  -- its least count is the count without its lowest e − 1 bits
  pub least_spread : second_least (second_code n) ≡ n / 2 ^ (e - 1) * 2 ^ (e - 1)
  unfolding second_least
  least_spread =
      let c = code_spread in
      let a : second_code n / 4096 ≡ e = omega (arith, c, low, high) in
      let b : second_code n % 4096 + 4096 ≡ n / 2 ^ (e - 1) = omega (arith, c, low, high) in
      let g : 4096 ≤ second_code n = omega (arith, c, high, s.least) in
      rw (le-ltb (second_code n) 4096 g) (λ i. b i * 2 ^ (a i - 1))

-- by the zeros above its highest bit
pub spread : (n : ℕ) → n < count_limit → 4096 ≤ n → Spread n (20 - count_leading_zeros 32 n)
spread n h g =
    let t = bits n h g in
    let e : ℕ = 20 - count_leading_zeros 32 n in
    let one : 1 ≤ e = positive e t.below in
    let p = halved e one in
    record { least = one; most = t.small; from = omega (arith, t.from, p); below = omega (arith, t.below, p) }
  where
    positive : (e : ℕ) → n < 4096 * 2 ^ e → 1 ≤ e
    positive e b = decide (ltb 0 e) (λ q. ltb-true 0 e q) (λ q. let z : e ≡ 0 = omega (arith, ltb-false 0 e q) in absurd (none (rw z at b)))
      where
        none : n < 4096 * 2 ^ 0 → ⊥
        none b = omega (arith, b, g)

-- ---- the code of any count

pub second_low : (n : ℕ) → n < 4096 → second_code n ≡ n
unfolding second_code
second_low n h = rw (lt-ltb n 4096 h)

module _ (n : ℕ) (h : n < count_limit) where
  abbrev e : ℕ
  e = 20 - count_leading_zeros 32 n

  -- a code is below D000
  pub second_below : second_code n < 0xD000
  second_below =
      decide (ltb n 4096)
      (λ q. omega (arith, second_low n (ltb-true n 4096 q), ltb-true n 4096 q))
      (λ q.
      let s = spread n h (ltb-false n 4096 q) in
      omega (arith, code_spread n e s, low n e s, high n e s, s.most))

  -- and so fits 16 bits
  pub second_fits : second_code n < 65536
  second_fits = omega (arith, second_below)

  pub second_valid_lem : second_valid (second_code n) ≡ true
  unfolding second_valid
  second_valid_lem = lt-ltb _ _ second_below

  -- the least count of a count's code is at most the count
  pub second_le : second_least (second_code n) ≤ n
  unfolding second_least
  second_le =
      decide (ltb n 4096)
      (λ q. let l = ltb-true n 4096 q in rw (second_low n l, lt-ltb n 4096 l) (omega arith))
      (λ q. rw (least_spread n e (spread n h (ltb-false n 4096 q))) (div-mul-le_self n (2 ^ (e - 1))))

-- ---- a valid code

pub valid_below : (c : ℕ) → second_valid c ≡ true → c < 0xD000
unfolding second_valid
valid_below c h = ltb-true c 0xD000 h

module _ (c : ℕ) (h : c < 0xD000) where
  -- the least count of a code from 1000 hex on is in the range of the code's exponent
  spread_again : 4096 ≤ c → Spread ((c % 4096 + 4096) * 2 ^ (c / 4096 - 1)) (c / 4096)
  spread_again g =
      let m : 4096 ≤ c % 4096 + 4096 = omega arith in
      let k : c % 4096 + 4096 < 8192 = omega arith in
      record {
        least = omega (arith, g);
        most = omega (arith, h);
        from = mul-le-mul_right (2 ^ (c / 4096 - 1)) m;
        below = mul-lt-mul_of_pos_right k (pow_pos (c / 4096 - 1));
      }

  -- a valid code is that of its least count
  pub second_again : second_code (second_least c) ≡ c
  unfolding second_least
  second_again =
      decide (ltb c 4096)
      (λ q. let l = ltb-true c 4096 q in rw (lt-ltb c 4096 l) (second_low c l))
      (λ q.
      let g = ltb-false c 4096 q in
      let d : (c % 4096 + 4096) * 2 ^ (c / 4096 - 1) / 2 ^ (c / 4096 - 1) ≡ c % 4096 + 4096 =
      mul-div_cancel (c % 4096 + 4096) (pow_pos (c / 4096 - 1)) in
      rw (le-ltb c 4096 g) (code_spread _ (c / 4096) (spread_again g) ∙ omega (arith, d, g)))

  pub second_least_below : second_least c < count_limit
  unfolding second_least
  second_least_below =
      decide (ltb c 4096)
      (λ q. let l = ltb-true c 4096 q in rw (lt-ltb c 4096 l) (omega (arith, l)))
      (λ q.
      let g = ltb-false c 4096 q in
      let a : c % 4096 + 4096 ≤ 8191 = omega arith in
      let k : c / 4096 - 1 ≤ 11 = omega (arith, h) in
      let p : 2 ^ (c / 4096 - 1) ≤ 2 ^ 11 = pow_mono k in
      rw (le-ltb c 4096 g) (omega (arith, mul-le-mul a p)))

-- the laws of an edition
pub second_laws : CodeLaws second_code second_least second_valid
second_laws = record {
  fits = second_fits;
  coded = second_valid_lem;
  at_most = second_le;
  again = λ n h. second_again (second_code n) (second_below n h);
  below = λ c h. second_least_below c (valid_below c h);
  valid_again = λ c h. second_again c (valid_below c h);
}

-- the least count of a code from 1000 hex on
pub least_high : (c : ℕ) → 4096 ≤ c → second_least c ≡ (c % 4096 + 4096) * 2 ^ (c / 4096 - 1)
unfolding second_least
least_high c g = rw (le-ltb c 4096 g)

pub least_low : (c : ℕ) → c < 4096 → second_least c ≡ c
unfolding second_least
least_low c l = rw (lt-ltb c 4096 l)

-- ---- the two editions

-- a count cut to a multiple of twice p is at most the count cut to a multiple of p
cut_finer : (n p : ℕ) → 0 < p → n / (2 * p) * (2 * p) ≤ n / p * p
cut_finer n p h =
    let a : n / (2 * p) * (2 * p) ≤ n = div-mul-le_self n (2 * p) in
    let b : n / (2 * p) * (2 * p) ≡ n / (2 * p) * 2 * p = sym (mul_assoc (n / (2 * p)) 2 p) in
    let c : n / (2 * p) * 2 ≤ n / p = (le-div_iff_mul-le h).1 (rw b at a) in
    rw b (mul-le-mul_right p c)

-- the second is never coarser: its least count is as near to the count, or nearer
pub second_finer : (n : ℕ) → n < count_limit → least_count (rate_code n) ≤ second_least (second_code n)
unfolding second_least
second_finer n h =
    decide (ltb n 4096)
    (λ q.
    let l = ltb-true n 4096 q in
    rw (second_low n l, lt-ltb n 4096 l) (least_le n h))
    (λ q.
    let g = ltb-false n 4096 q in
    let s = spread n h g in
    let t = bits n h g in
    let i : ℕ = 20 - count_leading_zeros 32 n in
    let first : least_count (rate_code n) ≡ n / 2 ^ i * 2 ^ i =
    least_cut n h ∙ ap (λ (k : ℕ). n / 2 ^ k * 2 ^ k) t.shifted in
    rw (first, halved i s.least, least_spread n i s) (cut_finer n (2 ^ (i - 1)) (pow_pos (i - 1))))

-- a quotient of twelve bits, shifted by s, is one of thirteen bits shifted by s − 1
module _ (q s : ℕ) (one : 1 ≤ s) (most : s ≤ 12) (from : 2048 ≤ q) (below : q < 4096) where
  doubled : q * 2 ^ s ≡ 2 * q * 2 ^ (s - 1)
  doubled =
      let t : q * 2 ≡ 2 * q = omega arith in
      ap (λ (p : ℕ). q * p) (halved s one) ∙ sym (mul_assoc q 2 (2 ^ (s - 1))) ∙ ap (λ (m : ℕ). m * 2 ^ (s - 1)) t

  doubled_spread : Spread (q * 2 ^ s) s
  doubled_spread =
      let a : 4096 ≤ 2 * q = omega (arith, from) in
      let b : 2 * q < 8192 = omega (arith, below) in
      record {
        least = one;
        most = most;
        from = rw doubled (mul-le-mul_right (2 ^ (s - 1)) a);
        below = rw doubled (mul-lt-mul_of_pos_right b (pow_pos (s - 1)));
      }

  doubled_exact : second_least (second_code (q * 2 ^ s)) ≡ q * 2 ^ s
  doubled_exact =
      least_spread (q * 2 ^ s) s doubled_spread
      ∙ ap (λ (n : ℕ). n / 2 ^ (s - 1) * 2 ^ (s - 1)) doubled
      ∙ ap (λ (n : ℕ). n * 2 ^ (s - 1)) (mul-div_cancel (2 * q) (pow_pos (s - 1)))
      ∙ sym doubled

-- every least count of the first edition is one of the second
pub first_exact : (c : ℕ) → code_valid c ≡ true → second_least (second_code (least_count c)) ≡ least_count c
unfolding least_count
first_exact c h =
    let t = parts c h in
    let q : ℕ = c % 4096 in
    let s : ℕ = c / 4096 in
    let l : q < 4096 = omega arith in
    decide (ltb 0 s)
    (λ p. ⊎_elim
    (λ (z : s ≡ 0). absurd (omega (arith, z, ltb-true 0 s p)))
    (λ (g : 2048 ≤ q). doubled_exact q s (ltb-true 0 s p) t.small g l)
    t.high)
    (λ p.
    let z : s ≡ 0 = omega (arith, ltb-false 0 s p) in
    let e : q * 2 ^ s ≡ q = ap (λ (k : ℕ). q * 2 ^ k) z ∙ omega arith in
    rw (e, second_low q l) (least_low q l))

-- and each of its valid codes is a valid one there, with another least count
pub first_valid : (c : ℕ) → code_valid c ≡ true → second_valid c ≡ true
unfolding second_valid
first_valid c h = lt-ltb c 0xD000 (omega (arith, (parts c h).small))
