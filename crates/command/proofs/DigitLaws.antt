-- Laws of digits and arguments. Assumes nothing.
use Rattle.std.proofs.Common.{◌≡◌, sym, ap, true, false, ◌&&◌, ◌||◌, cond, List, ◌⊎◌, inl, inr, ⊎_elim, ℕ, ◌+◌, ◌*◌, ◌^◌, ◌≤◌, ◌<◌}
use Rattle.std.proofs.Common.{arith, pow-suc, add-one, length, drop, drop_of_length-le, leb, ltb, eqb, lit<}
use Rattle.std.proofs.Common.{leb-true, le-leb, ltb-true, ltb-false, eqb-true, Some, None}
use borrow.Author.Tests.{lt-leb, eqb-false}
use Rattle.std.proofs.lemmas.Option.{same_Some}
use Rattle.std.proofs.Math.Nat.{pow-le-pow_right}
use Rattle.wire.specs.Lists.{all}
use Rattle.wire.proofs.Lists.{and_split, and_false, or_split, decide}
use Rattle.command.specs.Grammar.{is_digit, digit_value, hex_behind, hex_value, argument_of}

-- a number in a range that is tested
pub range : (lo hi b : ℕ) → (leb lo b && leb b hi) ≡ true → (lo ≤ b) × (b ≤ hi)
range lo hi b h =
    let s = and_split (leb lo b) (leb b hi) h in
    (leb-true lo b s.0, leb-true b hi s.1)

pub digit_range : (b : ℕ) → is_digit b ≡ true → ((48 ≤ b) × (b ≤ 57)) ⊎ ((97 ≤ b) × (b ≤ 102))
digit_range b h =
    ⊎_elim (λ p. inl (range 48 57 b p)) (λ p. inr (range 97 102 b p))
    (or_split (leb 48 b && leb b 57) (leb 97 b && leb b 102) h)

pub hex_end : (n : ℕ) (w : List ℕ) (i : ℕ) → length w ≤ i → hex_behind n (drop i w) ≡ n
hex_end n w i h = ap (hex_behind n) (drop_of_length-le w h)

-- room for one digit more behind five
pub hex_room : (n d i : ℕ) → n < 16 ^ i → d < 16 → i < 6 → (16 * n + d < 16 ^ (i + 1)) × (16 * n + d < 16777216)
hex_room n d i h g q =
    let p : 16 ^ (i + 1) ≡ 16 ^ i * 16 = rw add-one (pow-suc 16 i) in
    let m : 16 ^ i ≤ 16 ^ 5 = pow-le-pow_right {n = 16} (lit< tt) {i = i} {j = 5} (omega arith) in
    (omega arith, omega arith)

-- ---- what the code finds of a byte and of a word

pub digit_some : (b d : ℕ) → Some d ≡ cond (is_digit b) (Some (digit_value b)) None → (is_digit b ≡ true) × (digit_value b ≡ d) × (d < 16)
digit_some b d h = decide (is_digit b) yes (λ e. absurd (let g = rw e at h in cc))
  where
    small : is_digit b ≡ true → digit_value b < 16
    small e =
        ⊎_elim (λ p. rw (le-leb b 57 p.1) (omega arith)) (λ p. rw (lt-leb b 57 (omega arith)) (omega arith)) (digit_range b e)

    yes : is_digit b ≡ true → (is_digit b ≡ true) × (digit_value b ≡ d) × (d < 16)
    yes e =
        let g = rw e at h in
        let q : d ≡ digit_value b = same_Some d (digit_value b) g in
        (e, sym q, omega (arith, q, small e))

pub digit_none : (b : ℕ) → None ≡ cond (is_digit b) (Some (digit_value b)) None → is_digit b ≡ false
digit_none b h = decide (is_digit b) (λ e. absurd (let g = rw e at h in cc)) (λ e. e)

pub out_of_size : (w : List ℕ) → (eqb (length w) 0 || ltb 6 (length w)) ≡ true → argument_of w ≡ None
unfolding argument_of
out_of_size w h =
    ⊎_elim (λ e. rw (lt-leb 1 (length w) (omega (arith, eqb-true (length w) 0 e))))
    (λ e. rw (lt-leb (length w) 6 (ltb-true 6 (length w) e), and_false))
    (or_split (eqb (length w) 0) (ltb 6 (length w)) h)

pub in_size : (w : List ℕ) → (eqb (length w) 0 || ltb 6 (length w)) ≡ false → (1 ≤ length w) × (length w ≤ 6)
in_size w h =
    decide (eqb (length w) 0) (λ e. absurd (let g = rw e at h in cc))
    (λ e. let g = rw e at h in (omega (arith, eqb-false (length w) 0 e), ltb-false 6 (length w) g))

pub not_digits : (w : List ℕ) → all is_digit w ≡ false → argument_of w ≡ None
unfolding argument_of
not_digits w e = rw (e, and_false)

pub digits_are : (w : List ℕ) (n : ℕ) → (1 ≤ length w) × (length w ≤ 6) → all is_digit w ≡ true → hex_value w ≡ n → argument_of w ≡ Some n
unfolding argument_of
digits_are w n h e q = rw (le-leb 1 (length w) h.0, le-leb (length w) 6 h.1, e, q)
