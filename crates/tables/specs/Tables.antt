-- The lookup tables (document 01, "The lookup tables"). Assumes nothing.
use Rattle.std.specs.Prelude.{ℕ, ◌-◌, ◌*◌, List}
use Rattle.wire.specs.Bytes.{at24}

-- addresses: the first word; the one after the last; the four tables; the three offsets
abbrev pub first : ℕ
first = 0x7000

abbrev pub end : ℕ
end = 0xC203

abbrev pub high_gain : ℕ
high_gain = 0x7000

abbrev pub low_gain : ℕ
low_gain = 0x7800

abbrev pub matrix : ℕ
matrix = 0x8000

abbrev pub time_of_flight : ℕ
time_of_flight = 0xC000

abbrev pub khi : ℕ
khi = 0xC200

abbrev pub klo : ℕ
klo = 0xC201

abbrev pub ktof : ℕ
ktof = 0xC202

-- the lent buffer's length in bytes, and the number of words
abbrev pub table_bytes : ℕ
table_bytes = 62985

abbrev pub table_words : ℕ
table_words = 20995

-- "word address a is at byte 3 × (a − 7000 hex)"
abbrev pub byte_of : ℕ → ℕ
byte_of a = 3 * (a - first)

-- the word at an address
abbrev pub word_at : List ℕ → ℕ → ℕ
word_at tables a = at24 tables (byte_of a)
