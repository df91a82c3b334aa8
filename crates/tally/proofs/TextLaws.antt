-- The grammar reads each right text as what it says. Assumes nothing.
use Rattle.std.proofs.Common.{◌≡◌, refl, ap, ◌∙◌, Bool, true, false, not, List, [], ◌∷◌, ◌++◌, map, append-nil, ℕ, zero, suc, ◌+◌}
use Rattle.std.proofs.Common.{◌-◌, ◌*◌, ◌≤◌, ◌<◌, arith, leb-true, leb-false, le-leb, eq-eqb, ne_eqb, eqb, leb, length}
use Rattle.std.proofs.Common.{length-append, Option, Some}
use borrow.Author.Tests.{lt-leb, not-true}
use Prim.Native.String.{String}
use Rattle.wire.specs.Lists.{All, all}
use Rattle.wire.specs.Text.{text, hex_digit}
use Rattle.wire.specs.Words.{same}
use Rattle.wire.proofs.Lists.{decide, and_split}
use Rattle.load.specs.Load.{load_words, load_lawful}
use Rattle.command.specs.declared.command.Line.{Line}
use Rattle.command.specs.declared.command.Line.TheVariants.{Change, LoadZero, LoadAt, Ask, Commit}
use Rattle.command.specs.declared.command.Setting.{Setting}
use Rattle.command.specs.declared.command.Setting.TheVariants.{Limhi, Eonly, Toferror, Junk, Hv, Hvstep}
use Rattle.command.specs.declared.ranges.Ranges.{Ranges}
use Rattle.command.specs.Grammar.{printable, line_words, onto, is_digit, digit_value, hex_behind, argument_of, right_if, lookup_keyword}
use Rattle.command.specs.Grammar.{with_one, with_two, with_three, one_argument, two_arguments, three_arguments, of_words, line_of}
use Rattle.tally.specs.Texts.{Digits, value_behind, value_of, arguments_text, line_text, CommandText, change, load_zero, load_at, ask}
use Rattle.tally.specs.Texts.{commit}
use Rattle.tally.specs.Texts.{text_of, setting_most, words_of, Loadable, InRanges, TextsAre}

-- ---- one digit

pub record Digit (d : ℕ) : Type 0 where
  pub is : is_digit (hex_digit d) ≡ true
  pub shown : printable (hex_digit d) ≡ true
  pub apart : eqb (hex_digit d) 32 ≡ false
  pub value : digit_value (hex_digit d) ≡ d

pub digit : (d : ℕ) → d < 16 → Digit d
digit d h =
    decide (leb d 9)
    (λ e.
    let g : d ≤ 9 = leb-true d 9 e in
    let k : hex_digit d ≡ 48 + d = rw e in
    record {
      is = rw k (simp (le-leb 48 (48 + d) (omega arith), le-leb (48 + d) 57 (omega arith)));
      shown = rw k (simp (le-leb 32 (48 + d) (omega arith), le-leb (48 + d) 126 (omega arith)));
      apart = rw k (ne_eqb (48 + d) 32 (λ q. omega arith));
      value = rw k (simp (le-leb (48 + d) 57 (omega arith)) (omega arith));
    })
    (λ e.
    let g : 9 < d = leb-false d 9 e in
    let k : hex_digit d ≡ 97 + (d - 10) = rw e in
    let v : ℕ = 97 + (d - 10) in
    record {
      is = rw k (simp (lt-leb v 57 (omega arith), le-leb 48 v (omega arith), le-leb 97 v (omega arith), le-leb v 102 (omega arith)));
      shown = rw k (simp (le-leb 32 v (omega arith), le-leb v 126 (omega arith)));
      apart = rw k (ne_eqb v 32 (λ q. omega arith));
      value = rw k (simp (lt-leb v 57 (omega arith)) (omega arith));
    })

-- ---- an argument

pub digits_all : (p : ℕ → Bool) → ((d : ℕ) → d < 16 → p (hex_digit d) ≡ true) → (ds : List ℕ) → All (λ d. d < 16) ds
    → all p (map hex_digit ds) ≡ true
digits_all p k [] h = refl
digits_all p k (d ∷ ds) h = rw (k d h.0, digits_all p k ds h.1)

pub digits_length : (ds : List ℕ) → length (map hex_digit ds) ≡ length ds
digits_length [] = refl
digits_length (d ∷ ds) = ap suc (digits_length ds)

digits_value : (n : ℕ) (ds : List ℕ) → All (λ d. d < 16) ds → hex_behind n (map hex_digit ds) ≡ value_behind n ds
digits_value n [] h = refl
digits_value n (d ∷ ds) h =
    ap (λ (x : ℕ). hex_behind (16 * n + x) (map hex_digit ds)) (digit d h.0).value ∙ digits_value (16 * n + d) ds h.1

pub argument_is : (ds : List ℕ) → Digits ds → argument_of (map hex_digit ds) ≡ Some (value_of ds)
unfolding argument_of
argument_is ds h =
    rw (digits_length ds, le-leb _ _ h.0, le-leb _ _ h.1, digits_all is_digit (λ d g. (digit d g).is) ds h.2)
    (ap Some (digits_value 0 ds h.2))

-- ---- the words of a text

-- no byte of the word is a space
abbrev spaceless : List ℕ → Bool
spaceless w = all (λ b. not (eqb b 32)) w

word_last : (w : List ℕ) → spaceless w ≡ true → line_words w ≡ w ∷ []
unfolding line_words
word_last [] h = refl
word_last (b ∷ bs) h =
    let s = and_split _ _ h in
    rw (not-true (eqb b 32) s.0) (ap (onto b) (word_last bs s.1))

word_first : (w rest : List ℕ) → spaceless w ≡ true → line_words (w ++ 32 ∷ rest) ≡ w ∷ line_words rest
unfolding line_words
word_first [] rest h = refl
word_first (b ∷ bs) rest h =
    let s = and_split _ _ h in
    rw (not-true (eqb b 32) s.0) (ap (onto b) (word_first bs rest s.1))

words_are : (w : List ℕ) (dss : List (List ℕ)) → spaceless w ≡ true → All Digits dss
    → line_words (w ++ arguments_text dss) ≡ w ∷ map (map hex_digit) dss
words_are w [] h k = ap line_words (append-nil w) ∙ word_last w h
words_are w (ds ∷ dss) h k =
    word_first w (map hex_digit ds ++ arguments_text dss) h
    ∙ ap (λ (ws : List (List ℕ)). w ∷ ws)
    (words_are (map hex_digit ds) dss (digits_all _ (λ d g. ap not (digit d g).apart) ds k.0.2) k.1)

-- ---- a line of a keyword and arguments

module _ (k : String) (ranges : Ranges) (h : spaceless (text k) ≡ true) where
  line_is : (ds : List ℕ) (dss : List (List ℕ)) → All Digits (ds ∷ dss)
      → line_of (line_text k (ds ∷ dss)) ranges ≡ of_words (text k ∷ map (map hex_digit) (ds ∷ dss)) ranges
  unfolding line_of
  line_is ds dss g =
      rw (ne_eqb (length (line_text k (ds ∷ dss))) 0 (λ e. omega (arith, length-append (text k) (arguments_text (ds ∷ dss)))))
      (ap (λ (ws : List (List ℕ)). of_words ws ranges) (words_are (text k) (ds ∷ dss) h g))

  pub read_one : (n : List ℕ) → Digits n → line_of (line_text k (n ∷ [])) ranges ≡ with_one (text k) (value_of n) ranges
  unfolding of_words one_argument
  read_one n d = line_is n [] (d, tt) ∙ ap (λ (a : Option ℕ). one_argument (text k) a ranges) (argument_is n d)

  pub read_two : (a y : List ℕ) → Digits a → Digits y
      → line_of (line_text k (a ∷ y ∷ [])) ranges ≡ with_two (text k) (value_of a) (value_of y) ranges
  unfolding of_words two_arguments
  read_two a y d e =
      line_is a (y ∷ []) (d, (e, tt)) ∙ (λ i. two_arguments (text k) (argument_is a d i) (argument_is y e i) ranges)

  pub read_three : (a y s : List ℕ) → Digits a → Digits y → Digits s
      → line_of (line_text k (a ∷ y ∷ s ∷ [])) ranges ≡ with_three (text k) (value_of a) (value_of y) (value_of s) ranges
  unfolding of_words three_arguments
  read_three a y s d e f =
      line_is a (y ∷ s ∷ []) (d, (e, (f, tt)))
      ∙ (λ i. three_arguments (text k) (argument_is a d i) (argument_is y e i) (argument_is s f i) ranges)

-- ---- each right text

abbrev pub meant : CommandText → Line
meant (change k n) = Change k (value_of n)
meant (load_zero n) = LoadZero
meant (load_at a) = LoadAt (value_of a)
meant (ask a y) = Ask
meant (commit a y sum) = Commit (value_of a) (value_of y) (value_of sum)

pub words_same : (y reach : ℕ) → words_of y reach ≡ load_words y reach
words_same zero reach = refl
words_same (suc zero) reach = omega arith
words_same (suc (suc y)) reach = refl

loadable_lawful : (reach a y : ℕ) → Loadable reach a y → load_lawful a y reach ≡ true
unfolding load_lawful
loadable_lawful reach a y h =
    let last : a + load_words y reach ≤ 0xC203 = omega (arith, words_same y reach, h.3) in
    rw (le-leb y 2 h.0, le-leb 1 reach h.1, le-leb 0x7000 a h.2, le-leb (a + load_words y reach) 0xC203 last)

module _ (reach limhi : ℕ) where
  abbrev pub within : Ranges
  within = record { reach = reach; limhi = limhi }

  change_meant : (k : Setting) (n : List ℕ) → Digits n → value_of n ≤ setting_most limhi k
      → line_of (text_of (change k n)) within ≡ Change k (value_of n)
  unfolding with_one lookup_keyword same right_if
  change_meant Limhi n d h = read_one "limhi" within refl n d ∙ rw (le-leb _ _ h)
  change_meant Eonly n d h = read_one "eonly" within refl n d ∙ rw (le-leb _ _ h)
  change_meant Toferror n d h = read_one "toferror" within refl n d ∙ rw (le-leb _ _ h)
  change_meant Junk n d h = read_one "junk" within refl n d ∙ rw (le-leb _ _ h)
  change_meant Hv n d h = read_one "hv" within refl n d ∙ rw (le-leb _ _ h)
  change_meant Hvstep n d h = read_one "hvstep" within refl n d ∙ rw (le-leb _ _ h)

  pub text_meant : (x : CommandText) → InRanges reach limhi x → line_of (text_of x) within ≡ meant x
  unfolding with_one with_two with_three lookup_keyword same right_if
  text_meant (change k n) h = change_meant k n h.0 h.1
  text_meant (load_zero n) h = read_one "load" within refl n h.0 ∙ rw (eq-eqb _ _ h.1)
  text_meant (load_at a) h = read_one "loadat" within refl a h.0 ∙ rw (le-leb _ _ h.1)
  text_meant (ask a y) h = read_two "ask" within refl a y h.0 h.1 ∙ rw (loadable_lawful _ _ _ h.2)
  text_meant (commit a y s) h =
      read_three "commit" within refl a y s h.0 h.1 h.2 ∙ rw (loadable_lawful _ _ _ h.3)

-- ---- a text of each form

pub texts_are : TextsAre
texts_are = record {
  texts = refl;
  value = refl;
  whole_tables = λ reach limhi h k. (
    (omega arith, omega arith, (omega arith, (omega arith, (omega arith, (omega arith, tt))))),
    (omega arith, omega arith, (omega arith, tt)),
    (omega arith, h, omega arith, omega arith),
  );
}
