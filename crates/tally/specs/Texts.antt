-- The right lines as texts (document 01, "Commands and loads"; document 02, Point 4): written down from the paper, with nothing of what
-- reads them. Assumes nothing.
use Rattle.std.specs.Prelude.{◌≡◌, List, [], ◌∷◌, ◌++◌, map, ℕ, zero, suc, ◌+◌, ◌*◌, ◌/◌, ◌≤◌, ◌<◌, length}
use Prim.Native.Char.{code}
use Prim.Native.String.{String}
use Rattle.wire.specs.Lists.{All}
use Rattle.wire.specs.Text.{text, hex_digit}
use Rattle.command.specs.declared.command.Setting.{Setting}
use Rattle.command.specs.declared.command.Setting.TheVariants.{Limhi, Eonly, Toferror, Junk, Hv, Hvstep}

-- "A line has up to 80 bytes, each 32 to 126"
abbrev pub LineBytes : List ℕ → Type 0
LineBytes bytes = (length bytes ≤ 80) × All (λ b. (32 ≤ b) × (b ≤ 126)) bytes

-- ---- arguments, by the values of their digits

-- "one to six digits 0-9 a-f"
abbrev pub Digits : List ℕ → Type 0
Digits ds = (1 ≤ length ds) × (length ds ≤ 6) × All (λ d. d < 16) ds

-- "Addresses and command arguments are hexadecimal": sixteen times what stands before a digit, and the digit
abbrev pub value_behind : ℕ → List ℕ → ℕ
value_behind n [] = n
value_behind n (d ∷ ds) = value_behind (16 * n + d) ds

abbrev pub value_of : List ℕ → ℕ
value_of ds = value_behind 0 ds

-- ---- lines

-- "arguments .., one space before each"
abbrev pub arguments_text : List (List ℕ) → List ℕ
arguments_text [] = []
arguments_text (ds ∷ dss) = code " " ∷ (map hex_digit ds ++ arguments_text dss)

-- "a keyword, then arguments"
abbrev pub line_text : String → (arguments : List (List ℕ)) → List ℕ
line_text k dss = text k ++ arguments_text dss

-- each with its arguments
pub data CommandText : Type 0 where
  change : Setting → (n : List ℕ) → CommandText
  load_zero : (n : List ℕ) → CommandText
  load_at : (a : List ℕ) → CommandText
  ask : (a y : List ℕ) → CommandText
  commit : (a y sum : List ℕ) → CommandText

abbrev pub setting_word : Setting → String
setting_word Limhi = "limhi"
setting_word Eonly = "eonly"
setting_word Toferror = "toferror"
setting_word Junk = "junk"
setting_word Hv = "hv"
setting_word Hvstep = "hvstep"

abbrev pub text_of : CommandText → List ℕ
text_of (change k n) = line_text (setting_word k) (n ∷ [])
text_of (load_zero n) = line_text "load" (n ∷ [])
text_of (load_at a) = line_text "loadat" (a ∷ [])
text_of (ask a y) = line_text "ask" (a ∷ y ∷ [])
text_of (commit a y sum) = line_text "commit" (a ∷ y ∷ sum ∷ [])

-- ---- their ranges, by the reach and LIMHI's largest value

-- "limhi (0 to 2c0), eonly, toferror, junk, hv (0 or 1), hvstep (0 to ff)"
abbrev pub setting_most : (limhi : ℕ) → Setting → ℕ
setting_most limhi Limhi = limhi
setting_most limhi Eonly = 1
setting_most limhi Toferror = 1
setting_most limhi Junk = 1
setting_most limhi Hv = 1
setting_most limhi Hvstep = 0xff

-- "y 0 three bytes a word, y 1 one .., y 2 two ..; so y 2 makes half as many words, rounded up"
abbrev pub words_of : (y reach : ℕ) → ℕ
words_of zero reach = (reach + 2) / 3
words_of (suc zero) reach = reach
words_of (suc (suc y)) reach = (reach + 1) / 2

-- "It needs reach ≥ 1 and all words in 7000 to C202, judged when the line comes"
abbrev pub Loadable : (reach a y : ℕ) → Type 0
Loadable reach a y = (y ≤ 2) × (1 ≤ reach) × (0x7000 ≤ a) × (a + words_of y reach ≤ 0xC202 + 1)

-- "load 0 (one argument of value 0; any other single one is wrong)"; "loadat a needs a ≤ reach"; "ask a y" and "commit a y sum" check "as
-- load did"
abbrev pub InRanges : (reach limhi : ℕ) → CommandText → Type 0
InRanges reach limhi (change k n) = Digits n × (value_of n ≤ setting_most limhi k)
InRanges reach limhi (load_zero n) = Digits n × (value_of n ≡ 0)
InRanges reach limhi (load_at a) = Digits a × (value_of a ≤ reach)
InRanges reach limhi (ask a y) = Digits a × Digits y × Loadable reach (value_of a) (value_of y)
InRanges reach limhi (commit a y sum) = Digits a × Digits y × Digits sum × Loadable reach (value_of a) (value_of y)

-- ---- a text of each form, and an ask that is right wherever something is staged

abbrev pub text_cases : List (CommandText × String)
text_cases =
    (change Limhi (2 ∷ 12 ∷ 0 ∷ []), "limhi 2c0")
    ∷ (change Hvstep (15 ∷ 15 ∷ []), "hvstep ff")
    ∷ (load_zero (0 ∷ []), "load 0")
    ∷ (load_at (1 ∷ 10 ∷ []), "loadat 1a")
    ∷ (ask (7 ∷ 0 ∷ 0 ∷ 0 ∷ []) (0 ∷ []), "ask 7000 0")
    ∷ (commit (12 ∷ 2 ∷ 0 ∷ 2 ∷ []) (1 ∷ []) (15 ∷ 15 ∷ []), "commit c202 1 ff")
    ∷ []

pub record TextsAre : Type 0 where
  pub texts : map (λ (x : CommandText × String). text_of x.0) text_cases ≡ map (λ (x : CommandText × String). text x.1) text_cases
  pub value : value_of (12 ∷ 2 ∷ 0 ∷ 2 ∷ []) ≡ 0xC202
  pub whole_tables : (reach limhi : ℕ) → 1 ≤ reach → reach ≤ 62985 → InRanges reach limhi (ask (7 ∷ 0 ∷ 0 ∷ 0 ∷ []) (0 ∷ []))
