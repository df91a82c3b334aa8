-- Each command in its ranges is given by some line: `command_ok` refuses no command that a line can give, and no line can
-- give one that it refuses (`waits_ok`). Assumes nothing.
use Rattle.std.proofs.Common.{◌≡◌, ap, ◌∙◌, true, false, List, [], ◌∷◌, ◌++◌, ⊎_elim, ℕ, ◌+◌, ◌-◌, ◌/◌, ◌%◌, ◌≤◌, ◌<◌, arith, leb}
use Rattle.std.proofs.Common.{eqb, leb-true, leb-false, le-leb, ne_eqb, Option, Some}
use borrow.Author.Tests.{lt-leb}
use Prim.Native.String.{String}
use Rattle.wire.specs.Lists.{all}
use Rattle.wire.specs.Words.{same}
use Rattle.wire.specs.Text.{text, hex_digit, hex2}
use Rattle.wire.proofs.Lists.{either}
use Rattle.load.proofs.LoadLaws.{lawful_is}
use Rattle.command.specs.Grammar.{printable, bytes_ok, line_words, is_digit, digit_value, argument_of, right_if, lookup_keyword, most_of}
use Rattle.command.specs.Grammar.{with_one, with_three, one_argument, three_arguments, of_words, line_of, command_ok}
use Rattle.command.specs.Asked.{traits_of}
use Rattle.command.specs.declared.command.Line.{Line}
use Rattle.command.specs.declared.command.Command.{Command}
use Rattle.command.specs.declared.command.Command.TheVariants.{Set, Load}
use Rattle.command.specs.declared.command.Setting.{Setting}
use Rattle.command.specs.declared.command.Setting.TheVariants.{Limhi, Eonly, Toferror, Junk, Hv, Hvstep}
use Rattle.command.specs.declared.command.Line.TheVariants.{Change, Commit}
use Rattle.command.specs.declared.ranges.Ranges.{Ranges}

-- ---- a number in four digits

abbrev digits : ℕ → List ℕ
digits n = hex2 (n / 256) ++ hex2 (n % 256)

-- what a digit is
record Digit (d : ℕ) : Type 0 where
  is : is_digit (hex_digit d) ≡ true
  shown : printable (hex_digit d) ≡ true
  apart : eqb (hex_digit d) 32 ≡ false
  value : digit_value (hex_digit d) ≡ d

digit : (d : ℕ) → d < 16 → Digit d
digit d h =
    ⊎_elim
    (λ e.
    let g : d ≤ 9 = leb-true d 9 e in
    let k : hex_digit d ≡ 48 + d = rw e in
    record {
      is = rw k (simp (le-leb 48 (48 + d) (omega arith), le-leb (48 + d) 57 (omega arith)));
      shown = rw k (simp (le-leb 32 (48 + d) (omega arith), le-leb (48 + d) 126 (omega arith)));
      apart = rw k (ne_eqb (48 + d) 32 (λ q. omega arith));
      value = rw k (simp (le-leb (48 + d) 57 (omega arith)) (omega arith));
    })
    (λ e.
    let g : 9 < d = leb-false d 9 e in
    let k : hex_digit d ≡ 97 + (d - 10) = rw e in
    let v : ℕ = 97 + (d - 10) in
    record {
      is = rw k (simp (lt-leb v 57 (omega arith), le-leb 48 v (omega arith), le-leb 97 v (omega arith), le-leb v 102 (omega arith)));
      shown = rw k (simp (le-leb 32 v (omega arith), le-leb v 126 (omega arith)));
      apart = rw k (ne_eqb v 32 (λ q. omega arith));
      value = rw k (simp (lt-leb v 57 (omega arith)) (omega arith));
    })
    (either (leb d 9))

module _ (n : ℕ) (h : n < 65536) where
  d₁ : Digit (n / 256 / 16)
  d₁ = digit (n / 256 / 16) (omega arith)

  d₂ : Digit (n / 256 % 16)
  d₂ = digit (n / 256 % 16) (omega arith)

  d₃ : Digit (n % 256 / 16)
  d₃ = digit (n % 256 / 16) (omega arith)

  d₄ : Digit (n % 256 % 16)
  d₄ = digit (n % 256 % 16) (omega arith)

  words_digits : line_words (digits n) ≡ digits n ∷ []
  unfolding line_words
  words_digits = rw (d₁.apart, d₂.apart, d₃.apart, d₄.apart)

  words_digits_more : (w : List ℕ) → line_words (digits n ++ 32 ∷ w) ≡ digits n ∷ line_words w
  unfolding line_words
  words_digits_more w = rw (d₁.apart, d₂.apart, d₃.apart, d₄.apart)

  argument_digits : argument_of (digits n) ≡ Some n
  unfolding argument_of
  argument_digits =
      rw (d₁.is, d₂.is, d₃.is, d₄.is) (ap Some (rw (d₁.value, d₂.value, d₃.value, d₄.value) (omega arith)))

  all_digits : (w : List ℕ) → all printable (digits n ++ w) ≡ all printable w
  all_digits w = rw (d₁.shown, d₂.shown, d₃.shown, d₄.shown)

-- ---- a line for each command

-- each setting's keyword
abbrev word : Setting → String
word Limhi = "limhi"
word Eonly = "eonly"
word Toferror = "toferror"
word Junk = "junk"
word Hv = "hv"
word Hvstep = "hvstep"

abbrev line_for : Command → List ℕ
line_for (Set k n) = text (word k) ++ 32 ∷ digits n
line_for (Load a y) = text "commit" ++ 32 ∷ (digits a ++ 32 ∷ (digits y ++ 32 ∷ digits 0))

-- no value of a setting has more than four digits
most_small : (k : Setting) (n : ℕ) (ranges : Ranges) → ranges.limhi < 65536 → n ≤ most_of k ranges → n < 65536
most_small Limhi n ranges f h = omega arith
most_small Eonly n ranges f h = omega arith
most_small Toferror n ranges f h = omega arith
most_small Junk n ranges f h = omega arith
most_small Hv n ranges f h = omega arith
most_small Hvstep n ranges f h = omega arith

-- a keyword and one number
one_number : (k : List ℕ) (n : ℕ) (ranges : Ranges) → n < 65536 → of_words (k ∷ line_words (digits n)) ranges ≡ with_one k n ranges
unfolding of_words one_argument
one_number k n ranges h = rw (words_digits n h) (ap (λ (a : Option ℕ). one_argument k a ranges) (argument_digits n h))

-- and three
three_numbers : (k : List ℕ) (a y n : ℕ) (ranges : Ranges) → a < 65536 → y < 65536 → n < 65536
    → of_words (k ∷ line_words (digits a ++ 32 ∷ (digits y ++ 32 ∷ digits n))) ranges ≡ with_three k a y n ranges
unfolding of_words three_arguments
three_numbers k a y n ranges h g f =
    rw (words_digits_more a h (digits y ++ 32 ∷ digits n), words_digits_more y g (digits n), words_digits n f)
    (λ i. three_arguments k (argument_digits a h i) (argument_digits y g i) (argument_digits n f i) ranges)

-- a setting's line, where its keyword gives it
gives_set : (k : Setting) (n : ℕ) (ranges : Ranges) → n < 65536 → leb n (most_of k ranges) ≡ true
    → line_of (line_for (Set k n)) ranges ≡ Change k n
unfolding line_of line_words with_one lookup_keyword same right_if
gives_set Limhi n ranges h g = one_number (text "limhi") n ranges h ∙ rw g
gives_set Eonly n ranges h g = one_number (text "eonly") n ranges h ∙ rw g
gives_set Toferror n ranges h g = one_number (text "toferror") n ranges h ∙ rw g
gives_set Junk n ranges h g = one_number (text "junk") n ranges h ∙ rw g
gives_set Hv n ranges h g = one_number (text "hv") n ranges h ∙ rw g
gives_set Hvstep n ranges h g = one_number (text "hvstep") n ranges h ∙ rw g

gives : (c : Command) (ranges : Ranges) → ranges.limhi < 65536 → command_ok c ranges ≡ true
    → (traits_of (line_of (line_for c) ranges)).leaves ≡ Some c
unfolding line_of line_words with_three lookup_keyword same right_if
gives (Set k n) ranges f h =
    ap (λ (l : Line). (traits_of l).leaves) (gives_set k n ranges (most_small k n ranges f (leb-true n (most_of k ranges) h)) h)
gives (Load a y) ranges f h =
    let l = lawful_is a y ranges.reach h in
    let e : line_of (line_for (Load a y)) ranges ≡ Commit a y 0 =
    three_numbers (text "commit") a y 0 ranges (omega arith) (omega arith) (omega arith) ∙ rw h in
    ap (λ (l : Line). (traits_of l).leaves) e

bytes_set : (k : Setting) (n : ℕ) → n < 65536 → bytes_ok (line_for (Set k n)) ≡ true
bytes_set Limhi n h = all_digits n h []
bytes_set Eonly n h = all_digits n h []
bytes_set Toferror n h = all_digits n h []
bytes_set Junk n h = all_digits n h []
bytes_set Hv n h = all_digits n h []
bytes_set Hvstep n h = all_digits n h []

line_bytes_lem : (c : Command) (ranges : Ranges) → ranges.limhi < 65536 → command_ok c ranges ≡ true → bytes_ok (line_for c) ≡ true
line_bytes_lem (Set k n) ranges f h = bytes_set k n (most_small k n ranges f (leb-true n (most_of k ranges) h))
line_bytes_lem (Load a y) ranges f h =
    let l = lawful_is a y ranges.reach h in
    all_digits a (omega arith) (32 ∷ (digits y ++ 32 ∷ digits 0)) ∙ all_digits y (omega arith) (32 ∷ digits 0)

-- a command that is ok is what some line leaves waiting. LIMHI is a 16-bit number, so that four digits hold it
pub ok_given : (c : Command) (ranges : Ranges) → ranges.limhi < 65536 → command_ok c ranges ≡ true
    → (line : List ℕ) × ((bytes_ok line ≡ true) × ((traits_of (line_of line ranges)).leaves ≡ Some c))
ok_given c ranges f h = (line_for c, (line_bytes_lem c ranges f h, gives c ranges f h))
