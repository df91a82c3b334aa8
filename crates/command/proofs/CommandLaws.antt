-- What a line gives is in its range, and a command in its range keeps the settings in theirs. Assumes nothing.
use Rattle.std.proofs.Common.{◌≡◌, refl, sym, ap, ◌∙◌, Bool, true, false, cond, List, [], ◌∷◌, ◌++◌, map, ℕ, ◌≤◌, leb, eqb, length, leb-true}
use Prim.Native.String.{String}
use Rattle.settings.specs.declared.Settings.{Settings}
use Rattle.settings.specs.Settings.{settings_within}
use Rattle.wire.specs.Words.{same}
use Rattle.wire.specs.Text.{text}
use Rattle.command.specs.Grammar.{right_if, lookup_keyword, setting_words, most_of, set_line, with_one, with_two, with_three}
use Rattle.command.specs.Grammar.{one_argument, two_arguments, three_arguments}
use Rattle.command.specs.Grammar.{of_words, line_words, argument_of, line_of, command_ok}
use Rattle.command.specs.Asked.{traits_of}
use Rattle.command.specs.Change.{settings_after}
use Rattle.command.specs.declared.command.Command.{Command}
use Rattle.command.specs.declared.command.Command.TheVariants.{Set, Load}
use Rattle.command.specs.declared.command.Setting.{Setting}
use Rattle.command.specs.declared.command.Setting.TheVariants.{Limhi, Eonly, Toferror, Junk, Hv, Hvstep}
use Rattle.command.specs.declared.command.Line.{Line}
use Rattle.command.specs.declared.command.Line.TheVariants.{Empty, Wrong, Change, LoadZero, LoadAt, Ask, Commit}
use Rattle.std.specs.Prelude.{Option, Some, None}
use Rattle.command.specs.declared.ranges.Ranges.{Ranges}

-- a command in its ranges keeps the settings in theirs
pub settings_kept : (s : Settings) (c : Command) (ranges : Ranges) → settings_within ranges.limhi s ≡ true → command_ok c ranges ≡ true
    → settings_within ranges.limhi (settings_after s c) ≡ true
settings_kept s (Set Limhi n) ranges h g = g
settings_kept s (Set Eonly n) ranges h g = h
settings_kept s (Set Toferror n) ranges h g = h
settings_kept s (Set Junk n) ranges h g = h
settings_kept s (Set Hv n) ranges h g = h
settings_kept s (Set Hvstep n) ranges h g = h
settings_kept s (Load a y) ranges h g = h

-- ---- what a line gives is in its ranges

unfoldable line_ok : Line → Ranges → Bool
line_ok Empty ranges = true
line_ok Wrong ranges = true
line_ok (Change k n) ranges = command_ok (Set k n) ranges
line_ok LoadZero ranges = true
line_ok (LoadAt a) ranges = leb a ranges.reach
line_ok Ask ranges = true
line_ok (Commit a y n) ranges = command_ok (Load a y) ranges

right_ok : (ok : Bool) (l : Line) (ranges : Ranges) → (ok ≡ true → line_ok l ranges ≡ true) → line_ok (right_if ok l) ranges ≡ true
unfolding line_ok right_if
right_ok true l ranges h = h refl
right_ok false l ranges h = refl

entry_ok : (t : Bool) (l m : Line) (ranges : Ranges) → line_ok l ranges ≡ true → line_ok m ranges ≡ true → line_ok (cond t l m) ranges ≡ true
entry_ok true l m ranges h g = h
entry_ok false l m ranges h g = g

-- a table of keywords whose lines are all in their ranges
module _ (k : List ℕ) (ranges : Ranges) where
  lookup_ok : (s : String) (l : Line) (es : List (String × Line)) → line_ok l ranges ≡ true → line_ok (lookup_keyword k es) ranges ≡ true
      → line_ok (lookup_keyword k ((s, l) ∷ es)) ranges ≡ true
  unfolding lookup_keyword
  lookup_ok s l es h g = entry_ok (same k (text s)) l (lookup_keyword k es) ranges h g

  none_ok : line_ok (lookup_keyword k []) ranges ≡ true
  unfolding line_ok lookup_keyword
  none_ok = refl

  set_ok : (x : Setting) (n : ℕ) → line_ok (set_line x n ranges) ranges ≡ true
  unfolding line_ok
  set_ok x n = right_ok (leb n (most_of x ranges)) (Change x n) ranges (λ h. h)

  settings_ok : (ws : List (String × Setting)) (n : ℕ) (es : List (String × Line)) → line_ok (lookup_keyword k es) ranges ≡ true
      → line_ok (lookup_keyword k (map (λ e. (e.0, set_line e.1 n ranges)) ws ++ es)) ranges ≡ true
  settings_ok [] n es h = h
  settings_ok (w ∷ ws) n es h = lookup_ok w.0 (set_line w.1 n ranges) _ (set_ok w.1 n) (settings_ok ws n es h)

one_ok : (k : List ℕ) (n : Option ℕ) (ranges : Ranges) → line_ok (one_argument k n ranges) ranges ≡ true
unfolding line_ok one_argument with_one
one_ok k None ranges = refl
one_ok k (Some n) ranges =
    settings_ok k ranges setting_words n _
    (lookup_ok k ranges _ _ _ (right_ok (eqb n 0) LoadZero ranges (λ h. refl))
    (lookup_ok k ranges _ _ _ (right_ok (leb n ranges.reach) (LoadAt n) ranges (λ h. h)) (none_ok k ranges)))

two_ok : (k : List ℕ) (n m : Option ℕ) (ranges : Ranges) → line_ok (two_arguments k n m ranges) ranges ≡ true
unfolding line_ok two_arguments with_two
two_ok k None m ranges = refl
two_ok k (Some n) None ranges = refl
two_ok k (Some n) (Some m) ranges = lookup_ok k ranges _ _ _ (right_ok _ Ask ranges (λ h. refl)) (none_ok k ranges)

three_ok : (k : List ℕ) (n m l : Option ℕ) (ranges : Ranges) → line_ok (three_arguments k n m l ranges) ranges ≡ true
unfolding line_ok three_arguments with_three
three_ok k None m l ranges = refl
three_ok k (Some n) None l ranges = refl
three_ok k (Some n) (Some m) None ranges = refl
three_ok k (Some n) (Some m) (Some l) ranges = lookup_ok k ranges _ _ _ (right_ok _ (Commit n m l) ranges (λ h. h)) (none_ok k ranges)

of_words_ok : (ws : List (List ℕ)) (ranges : Ranges) → line_ok (of_words ws ranges) ranges ≡ true
unfolding line_ok of_words
of_words_ok [] ranges = refl
of_words_ok (k ∷ []) ranges = refl
of_words_ok (k ∷ a ∷ []) ranges = one_ok k (argument_of a) ranges
of_words_ok (k ∷ a ∷ b ∷ []) ranges = two_ok k (argument_of a) (argument_of b) ranges
of_words_ok (k ∷ a ∷ b ∷ c ∷ []) ranges = three_ok k (argument_of a) (argument_of b) (argument_of c) ranges
of_words_ok (k ∷ a ∷ b ∷ c ∷ d ∷ ws) ranges = refl

line_ok_lem : (line : List ℕ) (ranges : Ranges) → line_ok (line_of line ranges) ranges ≡ true
unfolding line_ok line_of
line_ok_lem line ranges =
    entry_ok (eqb (length line) 0) Empty (of_words (line_words line) ranges) ranges refl (of_words_ok (line_words line) ranges)

-- ---- what a line leaves waiting is in its ranges

abbrev leaves_ok : Ranges → Option Command → Bool
leaves_ok ranges None = true
leaves_ok ranges (Some c) = command_ok c ranges

leaves_ok_lem : (l : Line) (ranges : Ranges) → line_ok l ranges ≡ true → leaves_ok ranges (traits_of l).leaves ≡ true
unfolding line_ok
leaves_ok_lem Empty ranges h = refl
leaves_ok_lem Wrong ranges h = refl
leaves_ok_lem (Change k n) ranges h = h
leaves_ok_lem LoadZero ranges h = refl
leaves_ok_lem (LoadAt a) ranges h = refl
leaves_ok_lem Ask ranges h = refl
leaves_ok_lem (Commit a y n) ranges h = h

pub waits_ok : (line : List ℕ) (ranges : Ranges) (c : Command) → (traits_of (line_of line ranges)).leaves ≡ Some c
    → command_ok c ranges ≡ true
waits_ok line ranges c e = sym (ap (leaves_ok ranges) e) ∙ leaves_ok_lem (line_of line ranges) ranges (line_ok_lem line ranges)

pub loadat_within : (line : List ℕ) (ranges : Ranges) (a : ℕ) → line_of line ranges ≡ LoadAt a → a ≤ ranges.reach
unfolding line_ok
loadat_within line ranges a e = leb-true a ranges.reach (sym (ap (λ (l : Line). line_ok l ranges) e) ∙ line_ok_lem line ranges)
