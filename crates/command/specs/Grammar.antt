-- Command lines (document 01, "Commands and loads"; document 02, Point 4). Assumes nothing.
use Rattle.std.specs.Prelude.{ℕ, ◌+◌, ◌-◌, ◌*◌, Bool, ◌&&◌, ◌||◌, cond, List, [], ◌∷◌, ◌++◌, map, leb, eqb, length}
use Prim.Native.Char.{code}
use Prim.Native.String.{String}
use Rattle.wire.specs.Lists.{all}
use Rattle.wire.specs.Text.{text}
use Rattle.wire.specs.Words.{same}
use Rattle.load.specs.Load.{load_lawful}
use Rattle.command.specs.declared.command.Command.{Command}
use Rattle.command.specs.declared.command.Command.TheVariants.{Set, Load}
use Rattle.command.specs.declared.command.Setting.{Setting}
use Rattle.command.specs.declared.command.Setting.TheVariants.{Limhi, Eonly, Toferror, Junk, Hv, Hvstep}
use Rattle.command.specs.declared.command.Line.{Line}
use Rattle.command.specs.declared.command.Line.TheVariants.{Empty, Wrong, Change, LoadZero, LoadAt, Ask, Commit}
use Rattle.command.specs.declared.ranges.Ranges.{Ranges}
use Rattle.std.specs.Prelude.{Option, Some, None}

-- ---- bytes

-- "each 32 to 126"
abbrev pub printable : ℕ → Bool
printable b = leb 32 b && leb b 126

-- "A line has up to 80 bytes, each 32 to 126, without terminator"
abbrev pub bytes_ok : List ℕ → Bool
bytes_ok line = leb (length line) 80 && all printable line

-- ---- words

abbrev pub space : ℕ
space = code " "

-- a byte put before the first word
abbrev pub onto : ℕ → List (List ℕ) → List (List ℕ)
onto b [] = (b ∷ []) ∷ []
onto b (w ∷ ws) = (b ∷ w) ∷ ws

-- the words of a line: what stands between its spaces. Two spaces together have an empty word between them, and a space
-- at an end has one beside it
unfoldable pub line_words : List ℕ → List (List ℕ)
line_words [] = [] ∷ []
line_words (b ∷ bs) = cond (eqb b space) ([] ∷ line_words bs) (onto b (line_words bs))

-- ---- arguments

-- "digits 0-9 a-f"
abbrev pub is_digit : ℕ → Bool
is_digit b = (leb (code "0") b && leb b (code "9")) || (leb (code "a") b && leb b (code "f"))

-- 0 to 15
abbrev pub digit_value : ℕ → ℕ
digit_value b = cond (leb b (code "9")) (b - code "0") (b - code "a" + 10)

-- the number n with digits behind it: sixteen times what stands before a digit, and the digit's value
abbrev pub hex_behind : ℕ → List ℕ → ℕ
hex_behind n [] = n
hex_behind n (d ∷ ds) = hex_behind (16 * n + digit_value d) ds

-- "Addresses and command arguments are hexadecimal"
abbrev pub hex_value : List ℕ → ℕ
hex_value w = hex_behind 0 w

-- "arguments of one to six digits 0-9 a-f"
unfoldable pub argument_of : List ℕ → Option ℕ
argument_of w = cond (leb 1 (length w) && leb (length w) 6 && all is_digit w) (Some (hex_value w)) None

-- ---- keywords and ranges

-- the line, where its argument is in its range
unfoldable pub right_if : Bool → Line → Line
right_if ok l = cond ok l Wrong

-- the entry of a table of keywords for k; an unknown keyword makes a wrong line
unfoldable pub lookup_keyword : List ℕ → List (String × Line) → Line
lookup_keyword k [] = Wrong
lookup_keyword k (e ∷ es) = cond (same k (text e.0)) e.1 (lookup_keyword k es)

-- the settings' keywords
abbrev pub setting_words : List (String × Setting)
setting_words =
    ("limhi", Limhi) ∷ ("eonly", Eonly) ∷ ("toferror", Toferror) ∷ ("junk", Junk) ∷ ("hv", Hv) ∷ ("hvstep", Hvstep) ∷ []

-- a setting's largest value, the least being 0: "limhi (0 to 2c0), eonly, toferror, junk, hv (0 or 1), hvstep (0 to ff)"; LIMHI's
-- goes by the capacity
abbrev pub most_of : Setting → Ranges → ℕ
most_of Limhi ranges = ranges.limhi
most_of Eonly ranges = 1
most_of Toferror ranges = 1
most_of Junk ranges = 1
most_of Hv ranges = 1
most_of Hvstep ranges = 0xff

-- a setting's line
abbrev pub set_line : Setting → ℕ → Ranges → Line
set_line k n ranges = right_if (leb n (most_of k ranges)) (Change k n)

-- the keywords that take one argument, n: those of the settings, and "load 0 (one argument of value 0; any other single one is
-- wrong), loadat a"; "loadat a needs a ≤ reach"
abbrev pub keywords : (n : ℕ) → Ranges → List (String × Line)
keywords n ranges =
    map (λ e. (e.0, set_line e.1 n ranges)) setting_words
    ++ ("load", right_if (eqb n 0) LoadZero) ∷ ("loadat", right_if (leb n ranges.reach) (LoadAt n)) ∷ []

unfoldable pub with_one : List ℕ → ℕ → Ranges → Line
with_one k n ranges = lookup_keyword k (keywords n ranges)

-- the one that takes two: "The line "ask a y" checks as load did": it "needs reach ≥ 1 and all words in 7000 to C202, judged when the
-- line comes". "Two-argument load disappears"
unfoldable pub with_two : List ℕ → ℕ → ℕ → Ranges → Line
with_two k a y ranges = lookup_keyword k (("ask", right_if (load_lawful a y ranges.reach) Ask) ∷ [])

-- and three: "The line "commit a y sum" is checked likewise"
unfoldable pub with_three : List ℕ → ℕ → ℕ → ℕ → Ranges → Line
with_three k a y sum ranges = lookup_keyword k (("commit", right_if (load_lawful a y ranges.reach) (Commit a y sum)) ∷ [])

-- ---- lines

-- a keyword with an argument
unfoldable pub one_argument : List ℕ → Option ℕ → Ranges → Line
one_argument k None ranges = Wrong
one_argument k (Some n) ranges = with_one k n ranges

-- a keyword with two
unfoldable pub two_arguments : List ℕ → Option ℕ → Option ℕ → Ranges → Line
two_arguments k None b ranges = Wrong
two_arguments k (Some n) None ranges = Wrong
two_arguments k (Some n) (Some m) ranges = with_two k n m ranges

-- and with three
unfoldable pub three_arguments : List ℕ → Option ℕ → Option ℕ → Option ℕ → Ranges → Line
three_arguments k None b c ranges = Wrong
three_arguments k (Some n) None c ranges = Wrong
three_arguments k (Some n) (Some m) None ranges = Wrong
three_arguments k (Some n) (Some m) (Some l) ranges = with_three k n m l ranges

-- "a keyword, then arguments .., one space before each": the first word is the keyword, the others the arguments
unfoldable pub of_words : List (List ℕ) → Ranges → Line
of_words [] ranges = Wrong
of_words (k ∷ []) ranges = Wrong
of_words (k ∷ a ∷ []) ranges = one_argument k (argument_of a) ranges
of_words (k ∷ a ∷ b ∷ []) ranges = two_arguments k (argument_of a) (argument_of b) ranges
of_words (k ∷ a ∷ b ∷ c ∷ []) ranges = three_arguments k (argument_of a) (argument_of b) (argument_of c) ranges
of_words (k ∷ a ∷ b ∷ c ∷ d ∷ ws) ranges = Wrong

-- what a line is, in these ranges: "Empty line: .. it answers 0 and is no command"
unfoldable pub line_of : List ℕ → Ranges → Line
line_of line ranges = cond (eqb (length line) 0) Empty (of_words (line_words line) ranges)

-- whether some line gives this command in these ranges ("a waiting command that no line could give" is cause 1): "For 1, a waiting
-- commit is judged by a, y and reach alone, as load was"
abbrev pub command_ok : Command → Ranges → Bool
command_ok (Set k n) ranges = leb n (most_of k ranges)
command_ok (Load a y) ranges = load_lawful a y ranges.reach
