-- Checks in a row (document 01, "Causes and their numbers": "otherwise the lowest number that applies is given"). Assumes nothing.
use Rattle.std.specs.Prelude.{◌≡◌, Bool, true, false, ◌&&◌, not, cond, List, [], ◌∷◌, ◌⊎◌, ℕ, ◌≤◌, leb}
use Rattle.causes.specs.Causes.{carried_out}

-- a test that a call must pass, and the number of its cause, which applies where the test fails
abbrev pub Check : Type 0
Check = Bool × ℕ

-- the number of a call that goes through the checks in their order: that of the first which fails, and 0 where none does
abbrev pub number_by : List Check → ℕ
number_by [] = 0
number_by (c ∷ cs) = cond c.0 (number_by cs) c.1

-- every test is passed
abbrev pub Passed : List Check → Type 0
Passed [] = Unit {0}
Passed (c ∷ cs) = (c.0 ≡ true) × Passed cs

-- the number is that of a check which fails
abbrev pub Applies : ℕ → List Check → Type 0
Applies n [] = ⊥
Applies n (c ∷ cs) = ((c.0 ≡ false) × (c.1 ≡ n)) ⊎ Applies n cs

-- each number is that of a cause, from 1 on
abbrev pub numbered : List Check → Bool
numbered [] = true
numbered (c ∷ cs) = leb 1 c.1 && numbered cs

-- none of the numbers passes the test
abbrev pub none : (ℕ → Bool) → List Check → Bool
none f [] = true
none f (c ∷ cs) = not (f c.1) && none f cs

-- where the numbers stand in an order by `place`, none is before m, nor before one that is tested earlier: there the first number that
-- applies is the first of those that do
abbrev pub ascending_by : (place : ℕ → ℕ) → ℕ → List Check → Bool
ascending_by place m [] = true
ascending_by place m (c ∷ cs) = leb m (place c.1) && ascending_by place (place c.1) cs

-- the order of the numbers themselves
abbrev pub itself : ℕ → ℕ
itself n = n

-- ---- "A call that is carried out answers 0; otherwise the lowest number that applies is given"

-- 0 where every test is passed and nowhere else; any other number applies, and none that applies is before it. Numbers stand in the
-- order by `place`
pub record LowestBy (place : ℕ → ℕ) (cs : List Check) (number : ℕ) : Type 0 where
  pub is_carried_out : number ≡ carried_out → Passed cs
  pub applies : (number ≡ carried_out → ⊥) → Applies number cs
  pub lowest : (n : ℕ) → Applies n cs → place number ≤ place n

abbrev pub Lowest : List Check → (number : ℕ) → Type 0
Lowest cs number = LowestBy itself cs number
