-- Tests and counts on lists that several crates share. Assumes nothing.
use Rattle.std.specs.Prelude.{ℕ, ◌+◌, ◌<◌, ◌≢◌, Bool, true, false, ◌&&◌, ◌||◌, List, [], ◌∷◌, get_or, set, leb, eqb}

-- each element passes the test
abbrev pub all : {A : Type 0} → (A → Bool) → List A → Bool
all p [] = true
all p (x ∷ xs) = p x && all p xs

-- each element has the property
abbrev pub All : {A : Type 0} → (A → Type 0) → List A → Type 0
All P [] = Unit {0}
All P (x ∷ xs) = P x × All P xs

-- no two elements are equal
abbrev pub Distinct : {A : Type 0} → List A → Type 0
Distinct [] = Unit {0}
Distinct (x ∷ xs) = All (λ y. x ≢ y) xs × Distinct xs

-- x is at most the limit
abbrev pub at_most : ℕ → ℕ → Bool
at_most limit x = leb x limit

-- every number of the list is below n
abbrev pub EachBelow : ℕ → List ℕ → Type 0
EachBelow n xs = (k : ℕ) → get_or xs k 0 < n

-- the number is in the list
abbrev pub holds : ℕ → List ℕ → Bool
holds n [] = false
holds n (x ∷ xs) = eqb n x || holds n xs

-- one more at index i
abbrev pub bump : List ℕ → ℕ → List ℕ
bump xs i = set xs i (get_or xs i 0 + 1)

abbrev pub join_if : {A : Type 0} → Bool → A → List A → List A
join_if true x l = x ∷ l
join_if false x l = l

-- the elements that pass the test, in order
unfoldable pub keep : {A : Type 0} → (A → Bool) → List A → List A
keep p [] = []
keep p (x ∷ xs) = join_if (p x) x (keep p xs)
