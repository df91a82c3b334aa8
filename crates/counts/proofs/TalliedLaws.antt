-- An event counts in different boxes and beacons, so that each count of a table rises by one exactly where its number is among them.
-- Assumes nothing.
use Rattle.std.proofs.Common.{◌≡◌, refl, sym, ap, ◌∙◌, Bool, true, false, ◌||◌, List, [], ◌∷◌, ℕ, ◌+◌, ◌-◌, ◌≤◌, ◌<◌, add-zero}
use Rattle.std.proofs.Common.{arith, eq-eqb, ne_eqb, eqb, length, get_or, length-set, get_or-set_same, get_or-set_other, Option}
use Rattle.std.proofs.Common.{Some, None, IfSome}
use Rattle.std.proofs.Math.Decide.{ℕ_discrete}
use Rattle.std.specs.Option.{option_to_list}
use Rattle.boxes.specs.Boxes.{beacon_count}
use Rattle.wire.specs.Bits.{bit_of}
use Rattle.wire.specs.Lists.{all, at_most, holds, bump}
use Rattle.wire.specs.Pieces.{table}
use Rattle.wire.proofs.BitLaws.{bit_small}
use Rattle.wire.proofs.Lists.{all_at}
use Rattle.wire.proofs.Pieces.{length_table, table_at, table_is, same_table, table_most}
use Rattle.sort.specs.declared.sorting.Outcome.{Outcome}
use Rattle.sort.specs.declared.sorting.Outcome.TheVariants.{Discarded, OutOfBounds, InCell}
use Rattle.sort.specs.Boxes.{OutcomeNames}
use Rattle.counts.specs.Counts.{gain_box, priority_box, boxes_of, beacons_of, tallied}

-- ---- numbers that differ, each from 1 on

abbrev pub Differ : List ℕ → Type 0
Differ [] = Unit {0}
Differ (x ∷ xs) = (1 ≤ x) × ((holds x xs ≡ false) × Differ xs)

bump_at : (n : ℕ) (f : ℕ → ℕ) (j i : ℕ) → i < n → f i + bit_of (eqb i j) ≡ get_or (bump (table n f) j) i 0
bump_at n f j i h = go (ℕ_discrete i j)
  where
    go : Dec (i ≡ j) → f i + bit_of (eqb i j) ≡ get_or (bump (table n f) j) i 0
    go (yes q) =
        rw (eq-eqb i j q, ← q, get_or-set_same (table n f) i (get_or (table n f) i 0 + 1) 0 (rw (length_table f n) h), table_at f n i h)
    go (no d) =
        rw (ne_eqb i j d, get_or-set_other (table n f) j i (get_or (table n f) j 0 + 1) 0 d, table_at f n i h) (add-zero (f i))

bump_table : (n : ℕ) (f : ℕ → ℕ) (j : ℕ) → bump (table n f) j ≡ table n (λ i. f i + bit_of (eqb i j))
bump_table n f j =
    sym (table_is (λ i. f i + bit_of (eqb i j)) n (bump (table n f) j) (rw (length-set, length_table f n)) (bump_at n f j))

index_eq : (i x : ℕ) → 1 ≤ x → eqb i (x - 1) ≡ eqb (i + 1) x
index_eq i x h = go (ℕ_discrete (i + 1) x)
  where
    go : Dec (i + 1 ≡ x) → eqb i (x - 1) ≡ eqb (i + 1) x
    go (yes q) = let e : i ≡ x - 1 = omega arith in eq-eqb i (x - 1) e ∙ sym (eq-eqb (i + 1) x q)
    go (no d) = ne_eqb i (x - 1) (λ e. d (omega arith)) ∙ sym (ne_eqb (i + 1) x d)

-- one of two that do not both hold
pub either_one : (k x : ℕ) (xs : List ℕ) → holds x xs ≡ false → bit_of (eqb k x) + bit_of (holds k xs) ≡ bit_of (eqb k x || holds k xs)
either_one k x xs h = go (ℕ_discrete k x)
  where
    go : Dec (k ≡ x) → bit_of (eqb k x) + bit_of (holds k xs) ≡ bit_of (eqb k x || holds k xs)
    go (yes q) = rw (eq-eqb k x q, q, h)
    go (no d) = rw (ne_eqb k x d) (omega arith)

-- one more for each of some different numbers
pub tallied_table : (n : ℕ) (f : ℕ → ℕ) (ns : List ℕ) → Differ ns → tallied (table n f) ns ≡ table n (λ i. f i + bit_of (holds (i + 1) ns))
tallied_table n f [] d = same_table n f (λ i. f i + 0) (λ i h. sym (add-zero (f i)))
tallied_table n f (x ∷ xs) d =
    ap (λ (l : List ℕ). tallied l xs) (bump_table n f (x - 1))
    ∙ tallied_table n (λ i. f i + bit_of (eqb i (x - 1))) xs d.1.1
    ∙ same_table n _ _ (λ i h. omega (arith, ap bit_of (index_eq i x d.0), either_one (i + 1) x xs d.1.0))

-- ---- an event's boxes and beacons differ

pub boxes_differ : (o : Outcome) → OutcomeNames o → Differ (boxes_of o)
boxes_differ Discarded h = (omega arith, (refl, tt))
boxes_differ (OutOfBounds true) h = (omega arith, (refl, (omega arith, (refl, tt))))
boxes_differ (OutOfBounds false) h = (omega arith, (refl, (omega arith, (refl, tt))))
boxes_differ (InCell gain cell) h = cells gain cell.priority cell.ratebox h.0
  where
    three : (x y b : ℕ) → 1 ≤ x → 1 ≤ y → x < b → y < b → eqb x y ≡ false → 7 ≤ b → Differ (x ∷ y ∷ b ∷ [])
    three x y b hx hy kx ky d h =
        let ex = ne_eqb x b (λ e. omega arith) in
        let ey = ne_eqb y b (λ e. omega arith) in
        (hx, (rw (d, ex), (hy, (rw ey, (omega arith, (refl, tt))))))

    cells : (g p : Bool) (b : ℕ) → 7 ≤ b → Differ (gain_box g ∷ priority_box p ∷ b ∷ [])
    cells true true b k = three 4 2 b (omega arith) (omega arith) (omega arith) (omega arith) refl k
    cells true false b k = three 4 1 b (omega arith) (omega arith) (omega arith) (omega arith) refl k
    cells false true b k = three 3 2 b (omega arith) (omega arith) (omega arith) (omega arith) refl k
    cells false false b k = three 3 1 b (omega arith) (omega arith) (omega arith) (omega arith) refl k

pub beacons_differ : (o : Outcome) → OutcomeNames o → Differ (beacons_of o)
beacons_differ Discarded h = tt
beacons_differ (OutOfBounds gain) h = tt
beacons_differ (InCell gain cell) h = go cell.beacon h.2
  where
    go : (b : Option ℕ) → IfSome b (λ n. (1 ≤ n) × (n ≤ beacon_count)) → Differ (option_to_list b)
    go (Some n) h = (h.0, (refl, tt))
    go None h = tt

-- ---- so no count rises by more than one

as_table : (xs : List ℕ) → xs ≡ table (length xs) (λ i. get_or xs i 0)
as_table xs = sym (table_is (λ i. get_or xs i 0) (length xs) xs refl (λ i h. refl))

pub tallied_most : (m : ℕ) (xs ns : List ℕ) → Differ ns → all (at_most m) xs ≡ true → all (at_most (m + 1)) (tallied xs ns) ≡ true
tallied_most m xs ns d h =
    ap (λ (l : List ℕ). all (at_most (m + 1)) (tallied l ns)) (as_table xs)
    ∙ ap (all (at_most (m + 1))) (tallied_table (length xs) (λ i. get_or xs i 0) ns d)
    ∙ table_most (length xs) (m + 1) _ (λ i. omega (arith, all_at m xs i h, bit_small (holds (i + 1) ns)))
