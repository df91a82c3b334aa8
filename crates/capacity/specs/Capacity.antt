-- How many sample slots a processor has, and every number that follows from it (document 01, "One event", "Commands and loads" and
-- "Packets"). Assumes nothing.
use Rattle.capacity.specs.declared.Capacity.{Capacity}
use Rattle.capacity.specs.declared.Capacity.TheVariants.{Slots704}
use Rattle.capacity.specs.declared.Numbers.{Numbers}

-- "Records go into 704 32-bit slots"; "limhi (0 to 2c0)"; "Close writes 13 × 272 bytes: rate .., samples 606 to 616, beacon"
abbrev pub numbers_of : Capacity → Numbers
numbers_of Slots704 = record { slots = 704; limhi = 0x2c0; samples = 11; packets = 13 }
