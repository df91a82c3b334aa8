-- A flag's bit is 0 or 1, and tells the flag; a bit that is set or cleared changes no other. Assumes nothing.
use Rattle.std.proofs.Common.{◌≡◌, refl, sym, ap, ◌∙◌, Bool, true, false, ◌&&◌, not, cond, ℕ, zero, suc, ◌+◌, ◌-◌, ◌*◌, ◌/◌, ◌%◌}
use Rattle.std.proofs.Common.{◌^◌, ◌≤◌, ◌<◌, arith, eqb-true, ltb-true, eqb, ltb, bit_and, bit_or}
use Rattle.std.proofs.Math.Bool.{false≢true}
use Rattle.wire.specs.Bits.{bit_of, bit_at, with_bit}
use Rattle.wire.specs.Pieces.{each}
use Rattle.wire.proofs.Lists.{and_split}
use Rattle.wire.proofs.Pieces.{each_at}

pub bit_small : (b : Bool) → bit_of b ≤ 1
bit_small true = omega arith
bit_small false = omega arith

pub bit_back : (b : Bool) (x : ℕ) → x ≡ bit_of b → eqb x 1 ≡ b
bit_back true x e = ap (λ (n : ℕ). eqb n 1) e
bit_back false x e = ap (λ (n : ℕ). eqb n 1) e

-- ---- a bit set or cleared

-- what holds for each of 0 to 7 holds below 8
pub below_eight : (P : ℕ → Type 0) → P 0 → P 1 → P 2 → P 3 → P 4 → P 5 → P 6 → P 7 → (k : ℕ) → k < 8 → P k
below_eight P a b c d e f g h zero l = a
below_eight P a b c d e f g h (suc zero) l = b
below_eight P a b c d e f g h (suc (suc zero)) l = c
below_eight P a b c d e f g h (suc (suc (suc zero))) l = d
below_eight P a b c d e f g h (suc (suc (suc (suc zero)))) l = e
below_eight P a b c d e f g h (suc (suc (suc (suc (suc zero))))) l = f
below_eight P a b c d e f g h (suc (suc (suc (suc (suc (suc zero)))))) l = g
below_eight P a b c d e f g h (suc (suc (suc (suc (suc (suc (suc zero))))))) l = h
below_eight P a b c d e f g h (suc (suc (suc (suc (suc (suc (suc (suc k)))))))) l = absurd (omega (arith, l))

-- whether two flags agree
abbrev agree : Bool → Bool → Bool
agree a b = cond a b (not b)

agree_is : (a b : Bool) → agree a b ≡ true → a ≡ b
agree_is true true h = refl
agree_is true false h = absurd (false≢true h)
agree_is false true h = absurd (false≢true h)
agree_is false false h = refl

-- bit k of the byte set or cleared: bit j is that one or as it was, and the byte stays one
abbrev right_at : (b : Bool) (x k j : ℕ) → Bool
right_at b x k j = agree (bit_at (with_bit x k b) j) (cond (eqb k j) b (bit_at x j)) && ltb (with_bit x k b) 256

-- tried for every byte and every two bits
each_right : (b : Bool) → each 256 (λ x. each 8 (λ k. each 8 (λ j. right_at b x k j))) ≡ true
unfolding each
each_right true = refl
each_right false = refl

module _ (b : Bool) (x k j : ℕ) (hx : x < 256) (hk : k < 8) (hj : j < 8) where
  right_here : (bit_at (with_bit x k b) j ≡ cond (eqb k j) b (bit_at x j)) × (with_bit x k b < 256)
  right_here =
      let p = and_split _ _
      (each_at (λ j. right_at b x k j) 8 j hj (each_at (λ k. each 8 (λ j. right_at b x k j)) 8 k hk
      (each_at (λ x. each 8 (λ k. each 8 (λ j. right_at b x k j))) 256 x hx (each_right b)))) in
      (agree_is _ _ p.0, ltb-true _ _ p.1)

-- of any number: its lowest eight bits alone are asked and changed
low_bit : (x j : ℕ) → j < 8 → x / 2 ^ j % 2 ≡ x % 256 / 2 ^ j % 2
low_bit x j h =
    below_eight (λ j. x / 2 ^ j % 2 ≡ x % 256 / 2 ^ j % 2)
    (omega arith) (omega arith) (omega arith) (omega arith) (omega arith) (omega arith) (omega arith) (omega arith) j h

set_most : (x k : ℕ) → k < 8 → x % 256 / 2 ^ k % 2 ≡ 1 → 2 ^ k ≤ x % 256
set_most x k h =
    below_eight (λ k. x % 256 / 2 ^ k % 2 ≡ 1 → 2 ^ k ≤ x % 256)
    (λ e. omega (arith, e)) (λ e. omega (arith, e)) (λ e. omega (arith, e)) (λ e. omega (arith, e))
    (λ e. omega (arith, e)) (λ e. omega (arith, e)) (λ e. omega (arith, e)) (λ e. omega (arith, e)) k h

with_low : (x k : ℕ) (b : Bool) → k < 8 → with_bit x k b ≡ 256 * (x / 256) + with_bit (x % 256) k b
with_low x k b h = go (bit_at (x % 256) k) b refl (ap (λ (n : ℕ). eqb n 1) (low_bit x k h))
  where
    go : (t b : Bool) → bit_at (x % 256) k ≡ t → bit_at x k ≡ bit_at (x % 256) k
        → with_bit x k b ≡ 256 * (x / 256) + with_bit (x % 256) k b
    go true true e f = rw (f, e) (omega arith)
    go true false e f = rw (f, e) (let m = set_most x k h (eqb-true _ _ e) in omega (arith, m))
    go false true e f = rw (f, e) (omega arith)
    go false false e f = rw (f, e) (omega arith)

pub bit_with : (x k j : ℕ) (b : Bool) → k < 8 → j < 8 → bit_at (with_bit x k b) j ≡ cond (eqb k j) b (bit_at x j)
bit_with x k j b hk hj =
    let l = x % 256 in
    let w = with_bit l k b in
    let q = right_here b l k j (omega arith) hk hj in
    let m : with_bit x k b % 256 ≡ w = ap (λ (n : ℕ). n % 256) (with_low x k b hk) ∙ omega (arith, q.1) in
    let e : bit_at (with_bit x k b) j ≡ bit_at w j =
    ap (λ (n : ℕ). eqb n 1) (low_bit (with_bit x k b) j hj) ∙ ap (λ (n : ℕ). bit_at n j) m in
    e ∙ q.0 ∙ ap (cond (eqb k j) b) (sym (ap (λ (n : ℕ). eqb n 1) (low_bit x j hj)))

-- a byte with no bit set is zero, and zero has none: tried for every byte
each_none : each 256 (λ x. agree (eqb x 0) (each 8 (λ j. not (bit_at x j)))) ≡ true
unfolding each
each_none = refl

pub no_bits : (x : ℕ) → x < 256 → eqb x 0 ≡ each 8 (λ j. not (bit_at x j))
no_bits x h = agree_is _ _ (each_at (λ x. agree (eqb x 0) (each 8 (λ j. not (bit_at x j)))) 256 x h each_none)

-- the library's words for a bit set or cleared, tried for every byte and every bit
each_set : each 256 (λ x. each 8 (λ k. eqb (bit_or x (1 * 2 ^ k % 256)) (with_bit x k true))) ≡ true
unfolding each
each_set = refl

each_cleared : each 256 (λ x. each 8 (λ k. eqb (bit_and x (255 - 1 * 2 ^ k % 256)) (with_bit x k false))) ≡ true
unfolding each
each_cleared = refl

pub bit_set : (x k : ℕ) → x < 256 → k < 8 → bit_or x (1 * 2 ^ k % 256) ≡ with_bit x k true
bit_set x k hx hk =
    eqb-true _ _ (each_at (λ k. eqb (bit_or x (1 * 2 ^ k % 256)) (with_bit x k true)) 8 k hk
    (each_at (λ x. each 8 (λ k. eqb (bit_or x (1 * 2 ^ k % 256)) (with_bit x k true))) 256 x hx each_set))

pub bit_cleared : (x k : ℕ) → x < 256 → k < 8 → bit_and x (255 - 1 * 2 ^ k % 256) ≡ with_bit x k false
bit_cleared x k hx hk =
    eqb-true _ _ (each_at (λ k. eqb (bit_and x (255 - 1 * 2 ^ k % 256)) (with_bit x k false)) 8 k hk
    (each_at (λ x. each 8 (λ k. eqb (bit_and x (255 - 1 * 2 ^ k % 256)) (with_bit x k false))) 256 x hx each_cleared))
