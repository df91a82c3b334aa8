-- A line's body (document 01, "The program minute"). Assumes nothing.
use Rattle.std.specs.Prelude.{List, ℕ, take}
use Rattle.wire.specs.Words.{length_before}

-- "A line ends before its first zero byte"
abbrev pub to_first_zero : List ℕ → List ℕ
to_first_zero body = take (length_before 0 body) body
