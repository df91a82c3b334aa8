-- Loads (document 01, "Commands and loads"). Assumes nothing.
use Rattle.std.specs.Prelude.{ℕ, zero, suc, Option, Some, None, ◌+◌, ◌-◌, ◌*◌, ◌/◌, Bool, ◌&&◌, List, [], ◌++◌, leb, length, take, drop}
use Rattle.wire.specs.Bytes.{zeros, put}
use Rattle.wire.specs.Pieces.{padded}
use Rattle.tables.specs.Tables.{first, end, byte_of}
use Rattle.load.specs.declared.words.Packing.{Packing}
use Rattle.load.specs.declared.words.Packing.TheVariants.{ThreeBytes, OneByte, TwoBytes}

-- how many bytes go into a word: "y 0 three bytes a word, y 1 one (two zeros before), y 2 two (a zero before)". No load has
-- a y above 2
abbrev pub word_width : ℕ → ℕ
word_width zero = 3
word_width (suc zero) = 1
word_width (suc (suc y)) = 2

-- the ways to pack, and the y of each
abbrev pub packing_of : ℕ → Option Packing
packing_of zero = Some ThreeBytes
packing_of (suc zero) = Some OneByte
packing_of (suc (suc zero)) = Some TwoBytes
packing_of (suc (suc (suc y))) = None

abbrev pub packing_number : Packing → ℕ
packing_number ThreeBytes = 0
packing_number OneByte = 1
packing_number TwoBytes = 2

-- how many words n bytes make, "a short last word" counted: "so y 2 makes half as many words, rounded up"
abbrev pub load_words : ℕ → ℕ → ℕ
load_words y n = (n + (word_width y - 1)) / word_width y

-- load a y, of y 0 to 2, "needs reach ≥ 1 and all words in 7000 to C202"
unfoldable pub load_lawful : ℕ → ℕ → ℕ → Bool
load_lawful a y reach = leb y 2 && leb 1 reach && leb first a && leb (a + load_words y reach) end

-- word k of the bytes, w bytes a word: zeros before, the word's bytes, and "a short last word filled with zeros behind"
abbrev pub packed_word : ℕ → List ℕ → ℕ → List ℕ
packed_word w bytes k = zeros (3 - w) ++ padded w (take w (drop (w * k) bytes))

-- the first n words, one after the other
unfoldable pub packed_words : ℕ → List ℕ → ℕ → List ℕ
packed_words w bytes zero = []
packed_words w bytes (suc n) = packed_words w bytes n ++ packed_word w bytes n

-- all bytes, packed
abbrev pub packed : ℕ → List ℕ → List ℕ
packed y bytes = packed_words (word_width y) bytes (load_words y (length bytes))

-- the tables with the first `reach` bytes of staging packed into them from word a on
unfoldable pub loaded : List ℕ → List ℕ → ℕ → ℕ → ℕ → List ℕ
loaded tables staging a y reach = put tables (byte_of a) (packed y (take reach staging))
