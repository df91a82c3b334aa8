-- What inner functions find on the way. No definition of a line rests on it. Assumes nothing.
use Rattle.std.specs.Prelude.{ℕ, cond, eqb, leb, List, [], ◌∷◌, Option, Some, None}
use Rattle.wire.specs.Text.{text}
use Rattle.wire.specs.Words.{same}
use Rattle.load.specs.Load.{load_lawful}
use Rattle.command.specs.Grammar.{argument_of, right_if, set_line}
use Rattle.command.specs.declared.command.Setting.TheVariants.{Limhi, Eonly, Toferror, Junk, Hv, Hvstep}
use Rattle.command.specs.declared.command.Line.{Line}
use Rattle.command.specs.declared.command.Line.TheVariants.{Wrong, LoadZero, LoadAt, Ask, Commit}
use Rattle.command.specs.declared.keyword.Keyword.{Keyword}
use Rattle.command.specs.declared.keyword.Keyword.TheVariants.{Sets, Load as load_word, LoadAt as loadat_word, Ask as ask_word, Commit as commit_word}
use Rattle.command.specs.declared.keyword.Arguments.{Arguments}
use Rattle.command.specs.declared.keyword.Arguments.TheVariants.{One, Two, Three}
use Rattle.command.specs.declared.ranges.Ranges.{Ranges}

-- a refusal is a wrong line
abbrev pub or_wrong : Option Line → Line
or_wrong None = Wrong
or_wrong (Some l) = l

-- the keyword that a word is
unfoldable pub keyword_of : List ℕ → Option Keyword
keyword_of k =
    cond (same k (text "limhi")) (Some (Sets Limhi))
    (cond (same k (text "eonly")) (Some (Sets Eonly))
    (cond (same k (text "toferror")) (Some (Sets Toferror))
    (cond (same k (text "junk")) (Some (Sets Junk))
    (cond (same k (text "hv")) (Some (Sets Hv))
    (cond (same k (text "hvstep")) (Some (Sets Hvstep))
    (cond (same k (text "load")) (Some load_word)
    (cond (same k (text "loadat")) (Some loadat_word)
    (cond (same k (text "ask")) (Some ask_word)
    (cond (same k (text "commit")) (Some commit_word) None)))))))))

-- the arguments in the words behind a keyword
abbrev pub one_of : Option ℕ → Option Arguments
one_of None = None
one_of (Some n) = Some (One n)

abbrev pub two_of : Option ℕ → Option ℕ → Option Arguments
two_of None b = None
two_of (Some n) None = None
two_of (Some n) (Some m) = Some (Two n m)

abbrev pub three_of : Option ℕ → Option ℕ → Option ℕ → Option Arguments
three_of None b c = None
three_of (Some n) None c = None
three_of (Some n) (Some m) None = None
three_of (Some n) (Some m) (Some l) = Some (Three n m l)

unfoldable pub arguments_in : List (List ℕ) → Option Arguments
arguments_in [] = None
arguments_in (a ∷ []) = one_of (argument_of a)
arguments_in (a ∷ b ∷ []) = two_of (argument_of a) (argument_of b)
arguments_in (a ∷ b ∷ c ∷ []) = three_of (argument_of a) (argument_of b) (argument_of c)
arguments_in (a ∷ b ∷ c ∷ d ∷ ws) = None

-- y, where the load is lawful
abbrev pub lawful_packing : (a y : ℕ) → Ranges → Option ℕ
lawful_packing a y ranges = cond (load_lawful a y ranges.reach) (Some y) None

-- the line of a keyword with its arguments
abbrev pub with_arguments : Keyword → Arguments → Ranges → Line
with_arguments (Sets k) (One n) ranges = set_line k n ranges
with_arguments (Sets k) (Two n m) ranges = Wrong
with_arguments (Sets k) (Three n m l) ranges = Wrong
with_arguments load_word (One n) ranges = right_if (eqb n 0) LoadZero
with_arguments load_word (Two n m) ranges = Wrong
with_arguments load_word (Three n m l) ranges = Wrong
with_arguments loadat_word (One n) ranges = right_if (leb n ranges.reach) (LoadAt n)
with_arguments loadat_word (Two n m) ranges = Wrong
with_arguments loadat_word (Three n m l) ranges = Wrong
with_arguments ask_word (One n) ranges = Wrong
with_arguments ask_word (Two a y) ranges = right_if (load_lawful a y ranges.reach) Ask
with_arguments ask_word (Three n m l) ranges = Wrong
with_arguments commit_word (One n) ranges = Wrong
with_arguments commit_word (Two n m) ranges = Wrong
with_arguments commit_word (Three a y n) ranges = right_if (load_lawful a y ranges.reach) (Commit a y n)

-- the line of a keyword and its arguments, where there are such
abbrev pub answered : Option Keyword → Option Arguments → Ranges → Line
answered None y ranges = Wrong
answered (Some x) None ranges = Wrong
answered (Some x) (Some y) ranges = with_arguments x y ranges
