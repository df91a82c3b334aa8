-- Bytes up to a first one, and lists of bytes compared. Assumes nothing.
use Rattle.std.specs.Prelude.{ℕ, suc, Bool, true, false, ◌&&◌, cond, List, [], ◌∷◌, eqb}

-- how many bytes stand before the first b; all of them, where there is none
unfoldable pub length_before : (b : ℕ) → List ℕ → ℕ
length_before b [] = 0
length_before b (x ∷ xs) = cond (eqb x b) 0 (suc (length_before b xs))

-- whether two lists of bytes are the same
unfoldable pub same : List ℕ → List ℕ → Bool
same [] [] = true
same [] (y ∷ ys) = false
same (x ∷ xs) [] = false
same (x ∷ xs) (y ∷ ys) = eqb x y && same xs ys
