-- The capacity that both programs begin with (document 01, "One event" and "Packets"). Assumes nothing.
use Rattle.std.specs.Prelude.{ℕ}
use Rattle.capacity.specs.declared.Capacity.{Capacity}
use Rattle.capacity.specs.declared.Capacity.TheVariants.{Slots704}
use Rattle.output.specs.Output.{span_bytes}
use Rattle.processor.specs.Close.{close_span}

-- "Records go into 704 32-bit slots"
abbrev pub first_capacity : Capacity
first_capacity = Slots704

-- "Close writes 13 × 272 bytes"
abbrev pub out_bytes : ℕ
out_bytes = span_bytes (close_span first_capacity)
