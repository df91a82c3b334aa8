-- `write_sum` puts the byte sum behind the 271 bytes that it was taken of.
use Rattle.std.proofs.Common.{ℕ, ◌%◌, ap}
use Rattle.packet.proofs.Written.{sum_written}
use Rattle.packet.proofs.envelope.write_sum.Goals as goal

pub returns : goal.returns
returns c = sum_written c.args.part.now _ c.requires c.put.ensures (ap (λ (n : ℕ). n % 256) c.byte_sum-sum.ensures.0)
