-- Each read of `read_behind` writes behind the bytes that are held, so these stay.
use Rattle.std.proofs.Common.{◌≡◌, ◌≤◌, length, take}
use Rattle.buffered.proofs.input.read_behind.Given as goal

abbrev pub invariant-loop : goal.invariant-loop
invariant-loop g l = (l.held ≤ l.bytes) × (l.bytes ≤ length l.initial.buffer) × (take l.held l.buffer ≡ take l.held l.initial.buffer)
