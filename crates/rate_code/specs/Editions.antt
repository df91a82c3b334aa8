-- The two editions of the rate code, by the mark of a packet, its byte 269 (document 02, Point 5: "Rate and beacon packets get 1 in byte
-- 269; the reader takes both editions, and 13 judges codes by that byte"; Point 6: "The reader takes the mark 2 by the second edition's
-- rule"). Assumes nothing.
use Rattle.std.specs.Prelude.{ℕ, Bool, cond, eqb}
use Rattle.rate_code.specs.declared.editions.Edition.{Edition}
use Rattle.rate_code.specs.declared.editions.Edition.TheVariants.{First, Second}
use Rattle.rate_code.specs.declared.editions.Mark.{Mark}
use Rattle.rate_code.specs.declared.editions.Mark.TheVariants as marked
use Rattle.rate_code.specs.Rate.{rate_code, least_count, code_valid}
use Rattle.rate_code.specs.Second.{second_code, second_least, second_valid}

-- ---- the marks

-- the mark of the first edition
abbrev pub first_mark : ℕ
first_mark = 0

-- those of the second: written aboard, and converted, which is the last that the reader takes
abbrev pub second_mark : ℕ
second_mark = 1

abbrev pub converted_mark : ℕ
converted_mark = 2

abbrev pub mark_number : Mark → ℕ
mark_number marked.First = first_mark
mark_number marked.Second = second_mark
mark_number marked.Converted = converted_mark

-- the mark with a number, of those that the reader takes
abbrev pub mark_from : ℕ → Mark
mark_from n = cond (eqb n first_mark) marked.First (cond (eqb n second_mark) marked.Second marked.Converted)

-- whether the mark is that of the first edition
abbrev pub is_first : (mark : ℕ) → Bool
is_first mark = eqb mark first_mark

-- the edition that a mark stands for
abbrev pub edition_of : (mark : ℕ) → Edition
edition_of mark = cond (is_first mark) First Second

-- a mark that stands for the edition
abbrev pub mark_in : Edition → ℕ
mark_in First = first_mark
mark_in Second = second_mark

-- ---- the codes of an edition

abbrev pub code_of : Edition → (n : ℕ) → ℕ
code_of First n = rate_code n
code_of Second n = second_code n

abbrev pub least_of : Edition → (c : ℕ) → ℕ
least_of First c = least_count c
least_of Second c = second_least c

abbrev pub valid_of : Edition → (c : ℕ) → Bool
valid_of First c = code_valid c
valid_of Second c = second_valid c

-- ---- by the mark

abbrev pub code_by : (mark n : ℕ) → ℕ
code_by mark n = code_of (edition_of mark) n

abbrev pub least_by : (mark c : ℕ) → ℕ
least_by mark c = least_of (edition_of mark) c

abbrev pub valid_by : (mark c : ℕ) → Bool
valid_by mark c = valid_of (edition_of mark) c

-- a count that its code keeps whole: it is the code's least count
abbrev pub exact_by : (mark n : ℕ) → Bool
exact_by mark n = eqb (least_by mark (code_by mark n)) n
