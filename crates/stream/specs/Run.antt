-- A program's run over its input (document 01, "The program minute"). Assumes nothing.
use Rattle.std.specs.Prelude.{ℕ, Option, Result}
use Rattle.stream.specs.declared.kind.BadRecord.{BadRecord}

-- what a step hands back: how many bytes it used, none at the end of the input, or a bad record
abbrev pub Used : Type 0
Used = Result (Option ℕ) BadRecord
