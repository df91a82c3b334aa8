-- Laws of the columns: the quotient rounded down, its sign and its range. Assumes nothing.
use Rattle.std.proofs.Common.{◌≡◌, refl, sym, ap, ◌∙◌, Bool, true, false, ℕ, zero, suc, ◌+◌, ◌-◌, ◌/◌, ◌^◌, ◌≤◌, ◌<◌, ltb, leb→le}
use Rattle.std.proofs.Common.{ltb→lt, arith, ℤ, pos, negsuc, nat_abs, neg_ℤ, ◌+ℤ◌, ◌-ℤ◌, ◌<ℤ◌, ◌≤ℤ◌, lt-ltb, le-ltb, ltb-true}
use Rattle.std.proofs.Common.{ltb-false, le-leb, to_z-of_z, Some, None}
use lib.Signed.{non_neg}
use borrow.Author.Tests.{lt-leb}
use Rattle.std.proofs.Math.IntN.{sub_ℕ, +ℤ_assoc, +ℤ_comm, neg_ℤ-+ℤ}
use Rattle.sort.specs.Columns.{floor_z, u_of, mass_column, energy_column, bounded}

-- ---- signed differences

-- a - b, below and above 0
pub sub_below : (a b : ℕ) → a < b → sub_ℕ a b ≡ negsuc (b - a - 1)
sub_below a b h =
    let e : b - suc a ≡ b - a - 1 = omega arith in
    rw (lt-ltb a b h) (ap negsuc e)

pub sub_above : (a b : ℕ) → b ≤ a → sub_ℕ a b ≡ pos (a - b)
sub_above a b h = rw (le-ltb a b h)

-- a - b, as two integers
sub_as : (a b : ℕ) → pos a -ℤ pos b ≡ sub_ℕ a b
sub_as a zero = rw (le-ltb a 0 (omega arith)) (ap pos (omega arith))
sub_as a (suc b) = refl

swap : (x y z : ℤ) → (x +ℤ y) +ℤ z ≡ (x +ℤ z) +ℤ y
swap x y z = +ℤ_assoc x y z ∙ (ap (λ (v : ℤ). x +ℤ v) (+ℤ_comm y z) ∙ sym (+ℤ_assoc x z y))

regroup : (e k t f c : ℤ) → e -ℤ k +ℤ t -ℤ f +ℤ c ≡ (e +ℤ t +ℤ c) -ℤ (k +ℤ f)
regroup e k t f c =
    ap (λ (v : ℤ). v -ℤ f +ℤ c) (swap e (neg_ℤ k) t)
    ∙ (swap (e +ℤ t -ℤ k) (neg_ℤ f) c
    ∙ (ap (λ (v : ℤ). v -ℤ f) (swap (e +ℤ t) (neg_ℤ k) c)
    ∙ (+ℤ_assoc (e +ℤ t +ℤ c) (neg_ℤ k) (neg_ℤ f) ∙ ap (λ (v : ℤ). e +ℤ t +ℤ c +ℤ v) (sym (neg_ℤ-+ℤ k f)))))

-- u as one difference of plain numbers
pub u_sub : (e k t f : ℕ) → u_of e k t f ≡ sub_ℕ (e + t + 65536) (k + f)
u_sub e k t f = regroup (pos e) (pos k) (pos t) (pos f) (pos 65536) ∙ sub_as (e + t + 65536) (k + f)

-- ---- the columns, as quotients of differences of plain numbers

pub mass_sub : (e k t f : ℕ) → mass_column (u_of e k t f) ≡ floor_z (sub_ℕ (e + t + 65536) (k + f)) 3584
unfolding mass_column
mass_sub e k t f = ap mass_column (u_sub e k t f)

pub energy_sub : (t f : ℕ) → energy_column t f ≡ floor_z (sub_ℕ (f + 360448) t) 4096
unfolding energy_column
energy_sub t f = ap (λ (z : ℤ). floor_z z 4096) (sub_as (f + 360448) t)

-- ---- sign: "a column is negative exactly when its numerator is"

pub floor_sign : (n : ℤ) (d : ℕ) → non_neg (floor_z n d) ≡ non_neg n
floor_sign (pos a) d = refl
floor_sign (negsuc a) d = refl

pub mass_sign : (u : ℤ) → non_neg (mass_column u) ≡ non_neg u
unfolding mass_column
mass_sign u = floor_sign u 3584

pub energy_sign : (t f : ℕ) → non_neg (energy_column t f) ≡ non_neg (pos f +ℤ pos 360448 -ℤ pos t)
unfolding energy_column
energy_sign t f = floor_sign (pos f +ℤ pos 360448 -ℤ pos t) 4096

-- ---- range, for 24-bit words

-- z is from -(low + 1) to high
abbrev pub Between : (low high : ℕ) → ℤ → Type 0
Between low high (pos a) = a ≤ high
Between low high (negsuc a) = a ≤ low

floor_between : (a b d low high : ℕ) → (b - a - 1) / d ≤ low → (a - b) / d ≤ high → Between low high (floor_z (sub_ℕ a b) d)
floor_between a b d low high h k = go (ltb a b) refl
  where
    go : (t : Bool) → ltb a b ≡ t → Between low high (floor_z (sub_ℕ a b) d)
    go true q = rw (sub_below a b (ltb-true a b q)) h
    go false q = rw (sub_above a b (ltb-false a b q)) k

-- f_m is from -9,344 to 9,380
pub mass_range : (e k t f : ℕ) → e < 2 ^ 24 → k < 2 ^ 24 → t < 2 ^ 24 → f < 2 ^ 24 → Between 9343 9380 (mass_column (u_of e k t f))
mass_range e k t f he hk ht hf =
    rw (mass_sub e k t f)
    (floor_between (e + t + 65536) (k + f) 3584 9343 9380 (omega arith) (omega arith))

-- f_e is from -4,008 to 4,183
pub energy_range : (t f : ℕ) → t < 2 ^ 24 → f < 2 ^ 24 → Between 4007 4183 (energy_column t f)
energy_range t f ht hf =
    rw (energy_sub t f) (floor_between (f + 360448) t 4096 4007 4183 (omega arith) (omega arith))

-- ---- a column inside the matrix

pub inside_is : (z : ℤ) → pos 0 ≤ℤ z → z <ℤ pos 128 → Some (nat_abs z) ≡ bounded z
unfolding bounded
inside_is (pos a) h k = let q : a < 128 = ltb→lt a 128 k.lt in rw (le-leb a 127 (omega arith))
inside_is (negsuc a) h k = absurd h.le

pub below_is : (z : ℤ) → z <ℤ pos 0 → None ≡ bounded z
unfolding bounded
below_is (pos a) h = let q : a < 0 = ltb→lt a 0 h.lt in absurd (omega arith)
below_is (negsuc a) h = refl

pub above_is : (z : ℤ) → pos 128 ≤ℤ z → None ≡ bounded z
unfolding bounded
above_is (pos a) h = let q : 128 ≤ a = leb→le 128 a h.le in rw (lt-leb a 127 (omega arith))
above_is (negsuc a) h = absurd h.le

-- by these a column of the machine is that of the definitions
pub ruleset columns = (to_z-of_z, mass_sub, energy_sub, inside_is, below_is, above_is)
