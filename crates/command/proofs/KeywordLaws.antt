-- A line by its keyword: what the grammar says of a word and the words behind it goes by the keyword that it is. Assumes nothing.
use Rattle.std.proofs.Common.{◌≡◌, refl, false, true, List, [], ◌∷◌, ℕ}
use Rattle.std.specs.Prelude.{Option, Some, None}
use Rattle.wire.specs.Text.{text}
use Rattle.wire.specs.Words.{same}
use Rattle.wire.proofs.Lists.{decide}
use Rattle.wire.proofs.WordLaws.{same_words}
use Rattle.command.specs.Grammar.{lookup_keyword, with_one, with_two, with_three, argument_of}
use Rattle.command.specs.Grammar.{one_argument, two_arguments, three_arguments, of_words}
use Rattle.command.specs.Parsing.{keyword_of, arguments_in, one_of, two_of, three_of, answered}
use Rattle.command.specs.declared.command.Setting.TheVariants.{Limhi, Eonly, Toferror, Junk, Hv, Hvstep}
use Rattle.command.specs.declared.command.Line.TheVariants.{Wrong}
use Rattle.command.specs.declared.keyword.Keyword.{Keyword}
use Rattle.command.specs.declared.keyword.Keyword.TheVariants.{Sets, Load as load_word, LoadAt as loadat_word, Ask as ask_word, Commit as commit_word}
use Rattle.command.specs.declared.ranges.Ranges.{Ranges}

-- each keyword's word
abbrev word_of : Keyword → List ℕ
word_of (Sets Limhi) = text "limhi"
word_of (Sets Eonly) = text "eonly"
word_of (Sets Toferror) = text "toferror"
word_of (Sets Junk) = text "junk"
word_of (Sets Hv) = text "hv"
word_of (Sets Hvstep) = text "hvstep"
word_of load_word = text "load"
word_of loadat_word = text "loadat"
word_of ask_word = text "ask"
word_of commit_word = text "commit"

named_is : (x : Keyword) → keyword_of (word_of x) ≡ Some x
unfolding keyword_of same
named_is (Sets Limhi) = refl
named_is (Sets Eonly) = refl
named_is (Sets Toferror) = refl
named_is (Sets Junk) = refl
named_is (Sets Hv) = refl
named_is (Sets Hvstep) = refl
named_is load_word = refl
named_is loadat_word = refl
named_is ask_word = refl
named_is commit_word = refl

-- ---- a line that begins with a keyword, by the number of its arguments

one_known : (x : Keyword) (a : Option ℕ) (ranges : Ranges) → one_argument (word_of x) a ranges ≡ answered (Some x) (one_of a) ranges
unfolding one_argument with_one lookup_keyword same
one_known x None ranges = refl
one_known (Sets Limhi) (Some n) ranges = refl
one_known (Sets Eonly) (Some n) ranges = refl
one_known (Sets Toferror) (Some n) ranges = refl
one_known (Sets Junk) (Some n) ranges = refl
one_known (Sets Hv) (Some n) ranges = refl
one_known (Sets Hvstep) (Some n) ranges = refl
one_known load_word (Some n) ranges = refl
one_known loadat_word (Some n) ranges = refl
one_known ask_word (Some n) ranges = refl
one_known commit_word (Some n) ranges = refl

two_known : (x : Keyword) (a b : Option ℕ) (ranges : Ranges) → two_arguments (word_of x) a b ranges ≡ answered (Some x) (two_of a b) ranges
unfolding two_arguments with_two lookup_keyword same
two_known x None b ranges = refl
two_known x (Some n) None ranges = refl
two_known (Sets Limhi) (Some n) (Some m) ranges = refl
two_known (Sets Eonly) (Some n) (Some m) ranges = refl
two_known (Sets Toferror) (Some n) (Some m) ranges = refl
two_known (Sets Junk) (Some n) (Some m) ranges = refl
two_known (Sets Hv) (Some n) (Some m) ranges = refl
two_known (Sets Hvstep) (Some n) (Some m) ranges = refl
two_known load_word (Some n) (Some m) ranges = refl
two_known loadat_word (Some n) (Some m) ranges = refl
two_known ask_word (Some n) (Some m) ranges = refl
two_known commit_word (Some n) (Some m) ranges = refl

three_known : (x : Keyword) (a b c : Option ℕ) (ranges : Ranges)
    → three_arguments (word_of x) a b c ranges ≡ answered (Some x) (three_of a b c) ranges
unfolding three_arguments with_three lookup_keyword same
three_known x None b c ranges = refl
three_known x (Some n) None c ranges = refl
three_known x (Some n) (Some m) None ranges = refl
three_known (Sets Limhi) (Some n) (Some m) (Some l) ranges = refl
three_known (Sets Eonly) (Some n) (Some m) (Some l) ranges = refl
three_known (Sets Toferror) (Some n) (Some m) (Some l) ranges = refl
three_known (Sets Junk) (Some n) (Some m) (Some l) ranges = refl
three_known (Sets Hv) (Some n) (Some m) (Some l) ranges = refl
three_known (Sets Hvstep) (Some n) (Some m) (Some l) ranges = refl
three_known load_word (Some n) (Some m) (Some l) ranges = refl
three_known loadat_word (Some n) (Some m) (Some l) ranges = refl
three_known ask_word (Some n) (Some m) (Some l) ranges = refl
three_known commit_word (Some n) (Some m) (Some l) ranges = refl

known : (x : Keyword) (ws : List (List ℕ)) (ranges : Ranges) → of_words (word_of x ∷ ws) ranges ≡ answered (Some x) (arguments_in ws) ranges
unfolding of_words arguments_in
known x [] ranges = refl
known x (a ∷ []) ranges = one_known x (argument_of a) ranges
known x (a ∷ b ∷ []) ranges = two_known x (argument_of a) (argument_of b) ranges
known x (a ∷ b ∷ c ∷ []) ranges = three_known x (argument_of a) (argument_of b) (argument_of c) ranges
known x (a ∷ b ∷ c ∷ d ∷ ws) ranges = refl

-- ---- and one that begins with none

record Unknown (k : List ℕ) : Type 0 where
  not_limhi : same k (text "limhi") ≡ false
  not_eonly : same k (text "eonly") ≡ false
  not_toferror : same k (text "toferror") ≡ false
  not_junk : same k (text "junk") ≡ false
  not_hv : same k (text "hv") ≡ false
  not_hvstep : same k (text "hvstep") ≡ false
  not_load : same k (text "load") ≡ false
  not_loadat : same k (text "loadat") ≡ false
  not_ask : same k (text "ask") ≡ false
  not_commit : same k (text "commit") ≡ false

module _ (k : List ℕ) (u : Unknown k) (ranges : Ranges) where
  one_unknown : (a : Option ℕ) → one_argument k a ranges ≡ Wrong
  unfolding one_argument with_one lookup_keyword
  one_unknown None = refl
  one_unknown (Some n) = rw (u.not_limhi, u.not_eonly, u.not_toferror, u.not_junk, u.not_hv, u.not_hvstep, u.not_load, u.not_loadat)

  two_unknown : (a b : Option ℕ) → two_arguments k a b ranges ≡ Wrong
  unfolding two_arguments with_two lookup_keyword
  two_unknown None b = refl
  two_unknown (Some n) None = refl
  two_unknown (Some n) (Some m) = rw u.not_ask

  three_unknown : (a b c : Option ℕ) → three_arguments k a b c ranges ≡ Wrong
  unfolding three_arguments with_three lookup_keyword
  three_unknown None b c = refl
  three_unknown (Some n) None c = refl
  three_unknown (Some n) (Some m) None = refl
  three_unknown (Some n) (Some m) (Some l) = rw u.not_commit

  unknown : (ws : List (List ℕ)) → of_words (k ∷ ws) ranges ≡ Wrong
  unfolding of_words
  unknown [] = refl
  unknown (a ∷ []) = one_unknown (argument_of a)
  unknown (a ∷ b ∷ []) = two_unknown (argument_of a) (argument_of b)
  unknown (a ∷ b ∷ c ∷ []) = three_unknown (argument_of a) (argument_of b) (argument_of c)
  unknown (a ∷ b ∷ c ∷ d ∷ ws) = refl

unknown_none : (k : List ℕ) → Unknown k → keyword_of k ≡ None
unfolding keyword_of
unknown_none k u = rw (u.not_limhi, u.not_eonly, u.not_toferror, u.not_junk, u.not_hv, u.not_hvstep, u.not_load, u.not_loadat, u.not_ask, u.not_commit)

-- ---- any word

-- what holds for each keyword's word, and for a word that is none of them, holds for any
module _ (P : List ℕ → Type 0) (k : List ℕ) (each : (x : Keyword) → P (word_of x)) (other : Unknown k → P k) where
  begins : (x : Keyword) → same k (word_of x) ≡ true → P k
  begins x e = rw (same_words k (word_of x) e) (each x)

  any_word : P k
  any_word =
      decide (same k (text "limhi")) (begins (Sets Limhi)) (λ e0.
      decide (same k (text "eonly")) (begins (Sets Eonly)) (λ e1.
      decide (same k (text "toferror")) (begins (Sets Toferror)) (λ e2.
      decide (same k (text "junk")) (begins (Sets Junk)) (λ e3.
      decide (same k (text "hv")) (begins (Sets Hv)) (λ e4.
      decide (same k (text "hvstep")) (begins (Sets Hvstep)) (λ e5.
      decide (same k (text "load")) (begins load_word) (λ e6.
      decide (same k (text "loadat")) (begins loadat_word) (λ e7.
      decide (same k (text "ask")) (begins ask_word) (λ e8.
      decide (same k (text "commit")) (begins commit_word) (λ e9.
      other record { not_limhi = e0; not_eonly = e1; not_toferror = e2; not_junk = e3; not_hv = e4; not_hvstep = e5; not_load = e6; not_loadat = e7; not_ask = e8; not_commit = e9 }))))))))))

pub one_is : (k : List ℕ) (a : Option ℕ) (ranges : Ranges) → one_argument k a ranges ≡ answered (keyword_of k) (one_of a) ranges
one_is k a ranges =
    any_word (λ k. one_argument k a ranges ≡ answered (keyword_of k) (one_of a) ranges) k
    (λ x. rw (named_is x) (one_known x a ranges))
    (λ u. rw (unknown_none k u) (one_unknown k u ranges a))

pub two_is : (k : List ℕ) (a b : Option ℕ) (ranges : Ranges) → two_arguments k a b ranges ≡ answered (keyword_of k) (two_of a b) ranges
two_is k a b ranges =
    any_word (λ k. two_arguments k a b ranges ≡ answered (keyword_of k) (two_of a b) ranges) k
    (λ x. rw (named_is x) (two_known x a b ranges))
    (λ u. rw (unknown_none k u) (two_unknown k u ranges a b))

pub three_is : (k : List ℕ) (a b c : Option ℕ) (ranges : Ranges)
    → three_arguments k a b c ranges ≡ answered (keyword_of k) (three_of a b c) ranges
three_is k a b c ranges =
    any_word (λ k. three_arguments k a b c ranges ≡ answered (keyword_of k) (three_of a b c) ranges) k
    (λ x. rw (named_is x) (three_known x a b c ranges))
    (λ u. rw (unknown_none k u) (three_unknown k u ranges a b c))

-- ---- any line

pub asked_is : (k : List ℕ) (ws : List (List ℕ)) (ranges : Ranges) → of_words (k ∷ ws) ranges ≡ answered (keyword_of k) (arguments_in ws) ranges
asked_is k ws ranges =
    any_word (λ k. of_words (k ∷ ws) ranges ≡ answered (keyword_of k) (arguments_in ws) ranges) k
    (λ x. rw (named_is x) (known x ws ranges))
    (λ u. rw (unknown_none k u) (unknown k u ranges ws))
