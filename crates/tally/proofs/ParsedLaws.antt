-- A line that the grammar does not find wrong is empty or the text of a command in its ranges. Assumes nothing.
use Rattle.std.proofs.Common.{◌≡◌, refl, sym, ap, ◌∙◌, subst, Bool, true, false, ◌&&◌, List, [], ◌∷◌, ◌++◌, map, ◌⊎◌, inl, inr}
use Rattle.std.proofs.Common.{⊎_elim, ℕ, ◌+◌, ◌-◌, ◌<◌, arith, leb-true, le-leb, eqb-true, ne_eqb, eqb, leb, length, Option, Some}
use Rattle.std.proofs.Common.{None}
use Rattle.std.proofs.Math.Bool.{false≢true}
use borrow.Author.Tests.{lt-leb}
use Prim.Native.String.{String}
use Rattle.wire.specs.Lists.{All, all}
use Rattle.wire.specs.Text.{text, hex_digit}
use Rattle.wire.specs.Words.{same}
use Rattle.wire.proofs.Lists.{decide, and_split}
use Rattle.load.specs.Load.{load_lawful}
use Rattle.load.proofs.LoadLaws.{lawful_is}
use Rattle.command.proofs.DigitLaws.{digit_range}
use Rattle.command.specs.declared.command.Line.{Line}
use Rattle.command.specs.declared.command.Line.TheVariants.{Wrong}
use Rattle.command.specs.declared.command.Setting.TheVariants.{Limhi, Eonly, Toferror, Junk, Hv, Hvstep}
use Rattle.command.specs.Grammar.{line_words, onto, is_digit, digit_value, argument_of, right_if, lookup_keyword}
use Rattle.command.specs.Grammar.{with_one, with_two, with_three, one_argument, two_arguments, three_arguments, of_words, line_of}
use Rattle.tally.specs.Texts.{Digits, value_of, CommandText, change, load_zero, load_at, ask, commit, text_of, Loadable, InRanges}
use Rattle.tally.proofs.TextLaws.{within, argument_is, words_same}

-- ---- the line is its words, with a space before each but the first

abbrev spaced_all : List (List ℕ) → List ℕ
spaced_all [] = []
spaced_all (w ∷ ws) = 32 ∷ (w ++ spaced_all ws)

abbrev rest : List ℕ → List ℕ
rest [] = []
rest (b ∷ bs) = bs

none_some : (b : ℕ) (bs : List ℕ) → [] ≡ b ∷ bs → ⊥
none_some b bs h = omega (arith, ap length h)

spaced_onto : (b : ℕ) (bs : List ℕ) (ws : List (List ℕ)) → spaced_all ws ≡ 32 ∷ bs → spaced_all (onto b ws) ≡ 32 ∷ b ∷ bs
spaced_onto b bs [] h = absurd (none_some 32 bs h)
spaced_onto b bs (w ∷ ws) h = ap (λ (l : List ℕ). 32 ∷ b ∷ l) (ap rest h)

spaced_words : (bs : List ℕ) → spaced_all (line_words bs) ≡ 32 ∷ bs
unfolding line_words
spaced_words [] = refl
spaced_words (b ∷ bs) =
    decide (eqb b 32)
    (λ q. rw q (ap (λ (l : List ℕ). 32 ∷ l) (spaced_words bs ∙ ap (λ (x : ℕ). x ∷ bs) (sym (eqb-true b 32 q)))))
    (λ q. rw q (spaced_onto b bs (line_words bs) (spaced_words bs)))

-- ---- arguments

digit_back : (b : ℕ) → is_digit b ≡ true → (hex_digit (digit_value b) ≡ b) × (digit_value b < 16)
digit_back b h =
    ⊎_elim
    (λ g.
    let v : digit_value b ≡ b - 48 = rw (le-leb b 57 g.1) in
    (ap hex_digit v ∙ rw (le-leb (b - 48) 9 (omega (arith, g.0, g.1))) (omega (arith, g.0)), omega (arith, v, g.0, g.1)))
    (λ g.
    let v : digit_value b ≡ b - 97 + 10 = rw (lt-leb b 57 (omega (arith, g.0))) in
    (ap hex_digit v ∙ rw (lt-leb (b - 97 + 10) 9 (omega arith)) (omega (arith, g.0)), omega (arith, v, g.0, g.1)))
    (digit_range b h)

-- the values of a word's digits
record Spelled (w : List ℕ) : Type 0 where
  ds : List ℕ
  are : Digits ds
  spell : w ≡ map hex_digit ds

digits_back : (w : List ℕ) → all is_digit w ≡ true
    → (map hex_digit (map digit_value w) ≡ w) × All (λ d. d < 16) (map digit_value w) × (length (map digit_value w) ≡ length w)
digits_back [] h = (refl, tt, refl)
digits_back (b ∷ bs) h =
    let s = and_split _ _ h in
    let d = digit_back b s.0 in
    let r = digits_back bs s.1 in
    ((λ i. d.0 i ∷ r.0 i), (d.1, r.1), omega (arith, r.2))

argument_back : (w : List ℕ) → (argument_of w ≡ None) ⊎ Spelled w
unfolding argument_of
argument_back w =
    decide (leb 1 (length w) && leb (length w) 6 && all is_digit w)
    (λ q.
    let s = and_split _ _ q in
    let n = and_split (leb 1 (length w)) (leb (length w) 6) s.0 in
    let r = digits_back w s.1 in
    inr (record {
      ds = map digit_value w;
      are = (omega (arith, r.2, leb-true 1 (length w) n.0), omega (arith, r.2, leb-true (length w) 6 n.1), r.1);
      spell = sym r.0;
    }))
    (λ q. inl (rw q))

value_of_lem : (w : List ℕ) (s : Spelled w) → argument_of w ≡ Some (value_of s.ds)
value_of_lem w s = ap argument_of s.spell ∙ argument_is s.ds s.are

-- ---- keywords

same_is : (a b : List ℕ) → same a b ≡ true → a ≡ b
unfolding same
same_is [] [] h = refl
same_is [] (y ∷ ys) h = absurd (false≢true h)
same_is (x ∷ xs) [] h = absurd (false≢true h)
same_is (x ∷ xs) (y ∷ ys) h = let s = and_split _ _ h in λ i. eqb-true x y s.0 i ∷ same_is xs ys s.1 i

-- what holds of each entry with its keyword holds of what is looked up
looked_up : (P : List ℕ → Line → Type 0) → ((k : List ℕ) → P k Wrong) → (k : List ℕ) (es : List (String × Line))
    → All (λ e. P (text e.0) e.1) es → P k (lookup_keyword k es)
unfolding lookup_keyword
looked_up P wrong k [] h = wrong k
looked_up P wrong k (e ∷ es) h =
    decide (same k (text e.0))
    (λ q. rw q (subst (λ (w : List ℕ). P w e.1) (sym (same_is k (text e.0) q)) h.0))
    (λ q. rw q (looked_up P wrong k es h.1))

right_or : {A : Type 0} (ok : Bool) (l : Line) → (ok ≡ true → A) → (right_if ok l ≡ Wrong) ⊎ A
unfolding right_if
right_or true l f = inr (f refl)
right_or false l f = inl refl

lawful_loadable : (reach a y : ℕ) → load_lawful a y reach ≡ true → Loadable reach a y
lawful_loadable reach a y h =
    let l = lawful_is a y reach h in
    (l.way, l.some, l.from, omega (arith, words_same y reach, l.within))

-- ---- lines

module _ (reach limhi : ℕ) where
  -- the text of a command in its ranges
  abbrev pub Written : List ℕ → Type 0
  Written bytes = (x : CommandText) × InRanges reach limhi x × (bytes ≡ text_of x)

  -- a line that is wrong or written
  abbrev Read : (bytes : List ℕ) → Line → Type 0
  Read bytes l = (l ≡ Wrong) ⊎ Written bytes

  one_back : (k : List ℕ) (n : List ℕ) → Digits n → Read (k ++ 32 ∷ (map hex_digit n ++ [])) (with_one k (value_of n) (within reach limhi))
  unfolding with_one
  one_back k n d =
      looked_up (λ k l. Read (k ++ 32 ∷ (map hex_digit n ++ [])) l) (λ k. inl refl) k _ (
        right_or _ _ (λ q. (change Limhi n, (d, leb-true _ _ q), refl)),
        (
          right_or _ _ (λ q. (change Eonly n, (d, leb-true _ _ q), refl)),
          (
            right_or _ _ (λ q. (change Toferror n, (d, leb-true _ _ q), refl)),
            (
              right_or _ _ (λ q. (change Junk n, (d, leb-true _ _ q), refl)),
              (
                right_or _ _ (λ q. (change Hv n, (d, leb-true _ _ q), refl)),
                (
                  right_or _ _ (λ q. (change Hvstep n, (d, leb-true _ _ q), refl)),
                  (
                    right_or _ _ (λ q. (load_zero n, (d, eqb-true _ _ q), refl)),
                    (right_or _ _ (λ q. (load_at n, (d, leb-true _ _ q), refl)), tt),
                  ),
                ),
              ),
            ),
          ),
        ),
      )

  two_back : (k a y : List ℕ) → Digits a → Digits y
      → Read (k ++ 32 ∷ (map hex_digit a ++ 32 ∷ (map hex_digit y ++ []))) (with_two k (value_of a) (value_of y) (within reach limhi))
  unfolding with_two
  two_back k a y d e =
      looked_up (λ k l. Read (k ++ 32 ∷ (map hex_digit a ++ 32 ∷ (map hex_digit y ++ []))) l) (λ k. inl refl) k _ (
        right_or _ _ (λ q. (ask a y, (d, e, lawful_loadable _ _ _ q), refl)),
        tt,
      )

  three_back : (k a y s : List ℕ) → Digits a → Digits y → Digits s
      → Read (k ++ 32 ∷ (map hex_digit a ++ 32 ∷ (map hex_digit y ++ 32 ∷ (map hex_digit s ++ []))))
      (with_three k (value_of a) (value_of y) (value_of s) (within reach limhi))
  unfolding with_three
  three_back k a y s d e f =
      looked_up (λ k l. Read (k ++ 32 ∷ (map hex_digit a ++ 32 ∷ (map hex_digit y ++ 32 ∷ (map hex_digit s ++ [])))) l) (λ k. inl refl) k _ (
        right_or _ _ (λ q. (commit a y s, (d, e, f, lawful_loadable _ _ _ q), refl)),
        tt,
      )

  -- the line, by its bytes and what the grammar makes of them
  read_as : {bytes bytes' : List ℕ} {l l' : Line} → bytes ≡ bytes' → l ≡ l' → Read bytes' l' → Read bytes l
  read_as {bytes} {bytes'} {l} {l'} b e r = subst (λ (x : List ℕ). Read x l) (sym b) (subst (Read bytes') (sym e) r)

  words_back : (bytes : List ℕ) (ws : List (List ℕ)) → spaced_all ws ≡ 32 ∷ bytes → Read bytes (of_words ws (within reach limhi))
  unfolding of_words one_argument two_arguments three_arguments
  words_back bytes [] h = inl refl
  words_back bytes (k ∷ []) h = inl refl
  words_back bytes (k ∷ a ∷ []) h =
      ⊎_elim
      (λ e. inl (ap (λ (x : Option ℕ). one_argument k x (within reach limhi)) e))
      (λ s. read_as (sym (ap rest h) ∙ ap (λ (x : List ℕ). k ++ 32 ∷ (x ++ [])) s.spell)
      (ap (λ (x : Option ℕ). one_argument k x (within reach limhi)) (value_of_lem a s)) (one_back k s.ds s.are))
      (argument_back a)
  words_back bytes (k ∷ a ∷ b ∷ []) h =
      ⊎_elim
      (λ e. inl (ap (λ (x : Option ℕ). two_arguments k x (argument_of b) (within reach limhi)) e))
      (λ s.
      ⊎_elim
      (λ e. inl (λ i. two_arguments k (value_of_lem a s i) (e i) (within reach limhi)))
      (λ r. read_as (sym (ap rest h) ∙ (λ i. k ++ 32 ∷ (s.spell i ++ 32 ∷ (r.spell i ++ []))))
      (λ i. two_arguments k (value_of_lem a s i) (value_of_lem b r i) (within reach limhi)) (two_back k s.ds r.ds s.are r.are))
      (argument_back b))
      (argument_back a)
  words_back bytes (k ∷ a ∷ b ∷ c ∷ []) h =
      ⊎_elim
      (λ e. inl (ap (λ (x : Option ℕ). three_arguments k x (argument_of b) (argument_of c) (within reach limhi)) e))
      (λ s.
      ⊎_elim
      (λ e. inl (λ i. three_arguments k (value_of_lem a s i) (e i) (argument_of c) (within reach limhi)))
      (λ r.
      ⊎_elim
      (λ e. inl (λ i. three_arguments k (value_of_lem a s i) (value_of_lem b r i) (e i) (within reach limhi)))
      (λ u. read_as (sym (ap rest h) ∙ (λ i. k ++ 32 ∷ (s.spell i ++ 32 ∷ (r.spell i ++ 32 ∷ (u.spell i ++ [])))))
      (λ i. three_arguments k (value_of_lem a s i) (value_of_lem b r i) (value_of_lem c u i) (within reach limhi))
      (three_back k s.ds r.ds u.ds s.are r.are u.are))
      (argument_back c))
      (argument_back b))
      (argument_back a)
  words_back bytes (k ∷ a ∷ b ∷ c ∷ d ∷ ws) h = inl refl

  -- a line that is not empty and no such text is wrong
  pub none_written : (bytes : List ℕ) → (bytes ≡ [] → ⊥) → (Written bytes → ⊥) → line_of bytes (within reach limhi) ≡ Wrong
  unfolding line_of
  none_written [] e n = absurd (e refl)
  none_written (b ∷ bs) e n =
      rw (ne_eqb (length (b ∷ bs)) 0 (λ q. omega (arith, q)))
      (⊎_elim (λ q. q) (λ w. absurd (n w)) (words_back (b ∷ bs) (line_words (b ∷ bs)) (spaced_words (b ∷ bs))))
