-- The sum of the lookup tables in the rate packet (document 01, "Packets"). Assumes nothing.
use Rattle.std.specs.Prelude.{ℕ, ◌+◌, ◌*◌, ◌%◌, List, get_or}
use Rattle.wire.specs.Bytes.{at24, total}
use Rattle.tables.specs.Tables.{first, table_words, word_at}
use Rattle.wire.specs.Pieces.{table}

-- "264-266 sum of all table words modulo 2^24"
unfoldable pub table_sum : List ℕ → ℕ
table_sum tables = total (table table_words (λ i. word_at tables (first + i))) % 16777216

-- the sum of the n words from byte `at` on
unfoldable pub word_sum : List ℕ → (at n : ℕ) → ℕ
word_sum xs at n = total (table n (λ i. at24 xs (at + 3 * i)))

-- the columns of a row of bytes, with those from byte `at` on added
unfoldable pub added_row : (columns tables : List ℕ) (at : ℕ) → List ℕ
added_row columns tables at = table 48 (λ j. get_or columns j 0 + get_or tables (at + j) 0)
