-- Laws of words, and of lines made of them. Assumes nothing.
use Rattle.std.proofs.Common.{◌≡◌, refl, sym, ap, ◌∙◌, Bool, false, ◌&&◌, List, [], ◌∷◌, ⊎_elim, ℕ, suc, ◌-◌, ◌≤◌, ◌<◌, arith, not-suc-le-zero, length, take, drop, length-drop, take_all, eqb, ltb, eqb-true, ltb-true, ltb-false}
use Rattle.std.specs.List.{list_all}
use Rattle.wire.specs.Lists.{all}
use Rattle.wire.specs.Words.{length_before}
use Rattle.wire.proofs.Lists.{either, and_false}
use Rattle.command.specs.Grammar.{line_words, onto, is_digit, argument_of}
use Rattle.command.specs.Parsing.{arguments_in, three_of}
use Rattle.std.specs.Prelude.{Option, Some, None}

-- what the library says of every byte
pub all_is : {A : Type 0} (p : A → Bool) (xs : List A) → list_all p xs ≡ all p xs
all_is p [] = refl
all_is p (x ∷ xs) = rw (all_is p xs)

-- ---- the first word

-- a word with no space is all of the line
pub words_one : (w : List ℕ) → length w ≤ length_before 32 w → line_words w ≡ w ∷ []
unfolding line_words length_before
words_one [] h = refl
words_one (b ∷ bs) h =
    ⊎_elim
    (λ e. absurd (not-suc-le-zero (rw e at h)))
    (λ e. rw e (ap (onto b) (words_one bs (let g : suc (length bs) ≤ suc (length_before 32 bs) = rw e at h in omega arith))))
    (either (eqb b 32))

-- the first word, and the words behind the first space
pub words_more : (w : List ℕ) → length_before 32 w < length w
    → line_words w ≡ take (length_before 32 w) w ∷ line_words (drop (suc (length_before 32 w)) w)
unfolding line_words length_before
words_more [] h = absurd (not-suc-le-zero h)
words_more (b ∷ bs) h =
    ⊎_elim
    (λ e. rw e refl)
    (λ e. rw e (ap (onto b) (words_more bs (let g : suc (length_before 32 bs) < suc (length bs) = rw e at h in omega arith))))
    (either (eqb b 32))

-- a word with a space in it is no argument
spaced : (w : List ℕ) → length_before 32 w < length w → all is_digit w ≡ false
unfolding length_before
spaced [] h = absurd (not-suc-le-zero h)
spaced (b ∷ bs) h =
    ⊎_elim
    (λ e. ap (λ (x : ℕ). is_digit x && all is_digit bs) (eqb-true b 32 e))
    (λ e.
    let g : suc (length_before 32 bs) < suc (length bs) = rw e at h in
    rw (spaced bs (omega arith)) (and_false (is_digit b)))
    (either (eqb b 32))

pub spaced_argument : (w : List ℕ) → length_before 32 w < length w → argument_of w ≡ None
unfolding argument_of
spaced_argument w h = rw (spaced w h, and_false)

-- ---- the arguments

too_many : (a b c w : List ℕ) → arguments_in (a ∷ b ∷ c ∷ line_words w) ≡ None
unfolding arguments_in line_words
too_many a b c [] = refl
too_many a b c (x ∷ xs) = ⊎_elim (λ e. rw e refl) (λ e. rw e (from (line_words xs))) (either (eqb x 32))
  where
    from : (ws : List (List ℕ)) → arguments_in (a ∷ b ∷ c ∷ onto x ws) ≡ None
    from [] = refl
    from (w ∷ ws) = refl

pub third_none : (x y : Option ℕ) → three_of x y None ≡ None
third_none None y = refl
third_none (Some n) None = refl
third_none (Some n) (Some m) = refl

-- what stands behind the third space is the third argument, or there are too many
pub three_in : (a b w : List ℕ) → arguments_in (a ∷ b ∷ line_words w) ≡ three_of (argument_of a) (argument_of b) (argument_of w)
unfolding arguments_in
three_in a b w =
    ⊎_elim
    (λ e.
    let h : length_before 32 w < length w = ltb-true _ _ e in
    rw (words_more w h, spaced_argument w h) (too_many a b _ _ ∙ sym (third_none (argument_of a) (argument_of b))))
    (λ e. rw (words_one w (ltb-false _ _ e)))
    (either (ltb (length_before 32 w) (length w)))

pub rest_is : (xs : List ℕ) (a : ℕ) → take (length xs - a) (drop a xs) ≡ drop a xs
rest_is xs a = take_all (length xs - a) (drop a xs) (omega (arith, length-drop a xs))
