-- Laws of words: what the library says of a first byte and of two equal words. Assumes nothing.
use Rattle.std.proofs.Common.{◌≡◌, ℕ, ◌≤◌, true, cond, List, [], ◌∷◌, length, refl, ap, ◌∙◌, arith, Some, None, eqb, ltb, ltb-false}
use Rattle.std.specs.Option.{unwrap_or}
use Rattle.std.specs.List.{position, position_or_len}
use Rattle.std.specs.Str.{bytes_eq}
use Rattle.std.proofs.lemmas.List.Recursion.{is_position_or_len}
use Rattle.std.proofs.lemmas.List.Sums.{prefix_len-le-length}
use Rattle.std.proofs.lemmas.Slice.Eq.{bytes_eq-Decides}
use Rattle.wire.specs.Words.{length_before, same}
use Rattle.wire.proofs.Lists.{decide}

-- the bytes before the first b are as many as the library says
pub before_is : (b : ℕ) (w : List ℕ) → length_before b w ≡ position_or_len (λ x. eqb x b) w
unfolding length_before
before_is b w =
    is_position_or_len (length_before b) (λ x. eqb x b) refl
    (λ x xs. ap (cond (eqb x b) 0) (omega arith)) w

pub first_or_all : (b : ℕ) (w : List ℕ)
    → (unwrap_or (position (λ x. eqb x b) w) (length w) ≡ length_before b w) × (unwrap_or (position (λ x. eqb x b) w) (length w) ≤ length w)
first_or_all b w = rw before_is (go (position_or_len (λ x. eqb x b) w) (length w) (prefix_len-le-length _ w))
  where
    go : (n m : ℕ) → n ≤ m → (unwrap_or (cond (ltb n m) (Some n) None) m ≡ n) × (unwrap_or (cond (ltb n m) (Some n) None) m ≤ m)
    go n m h = decide (ltb n m) (λ e. rw e (refl, h)) (λ e. let q : m ≡ n = omega (arith, ltb-false n m e) in rw e (q, omega arith))

-- two words are the same where the library's `==` says so
pub same_is : (a b : List ℕ) → bytes_eq a b ≡ same a b
unfolding same
same_is [] [] = refl
same_is [] (y ∷ ys) = refl
same_is (x ∷ xs) [] = refl
same_is (x ∷ xs) (y ∷ ys) = rw (same_is xs ys)

pub same_words : (a b : List ℕ) → same a b ≡ true → a ≡ b
same_words a b h = (bytes_eq-Decides a b).0 (same_is a b ∙ h)
