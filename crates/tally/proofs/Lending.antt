-- What is lent: own or another. Assumes nothing.
use Rattle.std.proofs.Common.{◌≡◌, refl, sym, subst, true, List, [], ◌∷◌, ℕ}
use Rattle.std.proofs.Math.Bool.{false≢true}
use Rattle.wire.specs.Lists.{All, all}
use Rattle.wire.proofs.Lists.{and_split}
use Rattle.tally.specs.World.{Buffers, list_of, zip_each, World, Lent, own, other, found, kept, is_own, as_lent, as_left}
use Rattle.tally.specs.World.{Lending, all_own, owns_all, lend, give_back, joined, others_lent, others_left}

-- two functions that agree do so on every buffer
zip_same : {A B C : Type 0} (f g : A → B → C) → ((x : A) (y : B) → f x y ≡ g x y) → (a : Buffers A) (b : Buffers B)
    → zip_each f a b ≡ zip_each g a b
zip_same f g e a b = λ i. zip_each (λ x y. e x y i) a b

is_own_lem : (l : Lent) → is_own l ≡ true → l ≡ own
is_own_lem own h = refl
is_own_lem (other x) h = absurd (false≢true h)

are_own : (ls : List Lent) → all is_own ls ≡ true → All (λ l. l ≡ own) ls
are_own [] h = tt
are_own (l ∷ ls) h = let p = and_split (is_own l) (all is_own ls) h in (is_own_lem l p.0, are_own ls p.1)

-- where all is the own, it is enough to look at that
pub own_all : (P : Lending → Type 0) (l : Lending) → owns_all l ≡ true → P all_own → P l
own_all P l q p =
    let o = are_own (list_of l) q in
    subst P (sym (λ i. record { tables = o.0 i; staging = o.1.0 i; bitmap = o.1.1.0 i; slots = o.1.1.1.0 i })) p

kept_same : (l : Lent) (mine : List ℕ) → kept l mine (found l mine) ≡ mine
kept_same own mine = refl
kept_same (other x) mine = refl

-- what a call finds and leaves is given back
pub back_same : (l : Lending) (w : World) → give_back l w (lend l w) ≡ w
back_same l w = λ i. record { state = w.state; buffers = zip_same _ (λ l mine. mine) kept_same l w.buffers i }

left_same : (l : Lent) (mine : List ℕ) → as_left l (found l mine) ≡ as_lent l
left_same own mine = refl
left_same (other x) mine = refl

pub others_same : (l : Lending) (w : World) → others_left l (lend l w) ≡ others_lent l
others_same l w = λ i. joined (list_of (zip_same _ (λ l mine. as_lent l) left_same l w.buffers i))

-- tables that a call leaves as it finds them are the processor's as before
pub back_tables : (l : Lent) (mine after : List ℕ) → after ≡ found l mine → kept l mine after ≡ mine
back_tables own mine after e = e
back_tables (other x) mine after e = refl
