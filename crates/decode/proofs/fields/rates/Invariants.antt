-- `rates` has filled, after i turns, the first i counts, and each code it reads is valid.
use Rattle.std.specs.Prelude.{◌≡◌, length, take}
use Rattle.decode.specs.Read.{rates_of}
use Rattle.decode.proofs.fields.rates.Given as goal

abbrev pub invariant-loop-i : goal.invariant-loop-i
invariant-loop-i l = (take l.i l.counts ≡ rates_of l.i l.packet) × (length l.counts ≡ length l.initial.counts)
