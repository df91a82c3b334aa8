-- What the number of a row of checks says: 0 where all are passed, and otherwise the lowest number that applies. Assumes nothing.
use Rattle.std.proofs.Common.{◌≡◌, refl, sym, ap, ◌∙◌, Bool, true, false, ◌&&◌, not, cond, List, [], ◌∷◌, ◌++◌, ◌⊎◌, inl, inr, ℕ}
use Rattle.std.proofs.Common.{◌≤◌, arith, leb-true, leb}
use Rattle.std.proofs.Math.Bool.{false≢true}
use Rattle.causes.specs.Checks.{Check, number_by, Passed, Applies, numbered, none, ascending_by, itself, LowestBy, Lowest}

and_parts : (a b : Bool) → (a && b) ≡ true → (a ≡ true) × (b ≡ true)
and_parts true b h = (refl, h)
and_parts false b h = absurd (false≢true h)

-- a call that is carried out passed every test
pub all_passed : (cs : List Check) → numbered cs ≡ true → number_by cs ≡ 0 → Passed cs
all_passed [] h e = tt
all_passed (c ∷ cs) h e =
    let p = and_parts (leb 1 c.1) (numbered cs) h in
    go c.0 refl (leb-true 1 c.1 p.0) (all_passed cs p.1) e
  where
    go : (b : Bool) → c.0 ≡ b → 1 ≤ c.1 → (number_by cs ≡ 0 → Passed cs) → cond b (number_by cs) c.1 ≡ 0 → (c.0 ≡ true) × Passed cs
    go true q l ih e = (q, ih e)
    go false q l ih e = absurd (omega arith)

-- a number that passes a test which none of the first checks' numbers passes comes from behind them: they are all passed
pub passed_first : (f : ℕ → Bool) (cs ds : List Check) → none f cs ≡ true → f (number_by (cs ++ ds)) ≡ true → Passed cs
passed_first f [] ds h e = tt
passed_first f (c ∷ cs) ds h e =
    let p = and_parts (not (f c.1)) (none f cs) h in
    go c.0 refl p.0 (passed_first f cs ds p.1) e
  where
    go : (b : Bool) → c.0 ≡ b → not (f c.1) ≡ true → (f (number_by (cs ++ ds)) ≡ true → Passed cs)
        → f (cond b (number_by (cs ++ ds)) c.1) ≡ true → (c.0 ≡ true) × Passed cs
    go true q n ih e = (q, ih e)
    go false q n ih e = absurd (false≢true (sym (ap not e) ∙ n))

-- a refusal by the first checks stands, whatever those behind them say
pub number_before : (cs ds : List Check) → (number_by cs ≡ 0 → ⊥) → number_by (cs ++ ds) ≡ number_by cs
number_before [] ds h = absurd (h refl)
number_before (c ∷ cs) ds h = go c.0 h (number_before cs ds)
  where
    go : (b : Bool) → (cond b (number_by cs) c.1 ≡ 0 → ⊥) → ((number_by cs ≡ 0 → ⊥) → number_by (cs ++ ds) ≡ number_by cs)
        → cond b (number_by (cs ++ ds)) c.1 ≡ cond b (number_by cs) c.1
    go true h ih = ih h
    go false h ih = refl

-- where the first are passed, those behind them decide
pub number_behind : (cs ds : List Check) → Passed cs → number_by (cs ++ ds) ≡ number_by ds
number_behind [] ds h = refl
number_behind (c ∷ cs) ds h = rw h.0 (number_behind cs ds h.1)

-- the number of a call that is refused applies
pub number_applies : (cs : List Check) → (number_by cs ≡ 0 → ⊥) → Applies (number_by cs) cs
number_applies [] h = absurd (h refl)
number_applies (c ∷ cs) h = go c.0 refl h (number_applies cs)
  where
    go : (b : Bool) → c.0 ≡ b → (cond b (number_by cs) c.1 ≡ 0 → ⊥) → ((number_by cs ≡ 0 → ⊥) → Applies (number_by cs) cs)
        → ((c.0 ≡ false) × (c.1 ≡ cond b (number_by cs) c.1)) ⊎ Applies (cond b (number_by cs) c.1) cs
    go true q h ih = inr (ih h)
    go false q h ih = inl (q, refl)

-- where a number applies, the call's number is at most that, in an order in which the checks' numbers ascend
pub number_lowest : (place : ℕ → ℕ) (m n : ℕ) (cs : List Check) → ascending_by place m cs ≡ true → Applies n cs
    → (m ≤ place (number_by cs)) × (place (number_by cs) ≤ place n)
number_lowest place m n [] h a = absurd a
number_lowest place m n (c ∷ cs) h a =
    let p = and_parts (leb m (place c.1)) (ascending_by place (place c.1) cs) h in
    go c.0 refl (leb-true m (place c.1) p.0) (number_lowest place (place c.1) n cs p.1) a
  where
    go : (b : Bool) → c.0 ≡ b → m ≤ place c.1 → (Applies n cs → (place c.1 ≤ place (number_by cs)) × (place (number_by cs) ≤ place n))
        → ((c.0 ≡ false) × (c.1 ≡ n)) ⊎ Applies n cs
        → (m ≤ place (cond b (number_by cs) c.1)) × (place (cond b (number_by cs) c.1) ≤ place n)
    go true q l ih (inl e) = absurd (false≢true (sym e.0 ∙ q))
    go true q l ih (inr r) = let k = ih r in (omega arith, k.1)
    go false q l ih (inl e) = (l, omega (arith, ap place e.1))
    go false q l ih (inr r) = let k = ih r in (l, omega arith)

-- so the number of checks whose numbers ascend is 0 where all are passed, and otherwise the lowest that applies
pub lowest_by : (place : ℕ → ℕ) (cs : List Check) → numbered cs ≡ true → ascending_by place 0 cs ≡ true → LowestBy place cs (number_by cs)
lowest_by place cs f h = record {
  is_carried_out = λ e. all_passed cs f e;
  applies = λ ne. number_applies cs ne;
  lowest = λ n a. (number_lowest place 0 n cs h a).1;
}

pub lowest : (cs : List Check) → numbered cs ≡ true → ascending_by itself 0 cs ≡ true → Lowest cs (number_by cs)
lowest cs f h = lowest_by itself cs f h
