-- The largest values that the reader takes (document 01, "Causes and their numbers"; document 02, Points 5 and 6). Assumes nothing.
use Rattle.std.specs.Prelude.{ℕ}
use Rattle.rate_code.specs.Editions.{converted_mark}

-- "packet p (0 to 10)"
abbrev pub last_sample : ℕ
last_sample = 10

-- "LIMHI over 704" is a fault
abbrev pub largest_limhi : ℕ
largest_limhi = 704

-- byte 269 of a rate or beacon packet: "2 (converted)"
abbrev pub last_mark : ℕ
last_mark = converted_mark
