-- `none_of_eight` asks whether the byte is zero.
use Rattle.std.proofs.Common.{arith}
use Rattle.wire.proofs.BitLaws.{no_bits}
use Rattle.load.proofs.bitmap.none_of_eight.Goals as goal

pub returns : goal.returns
returns c = no_bits c.args.byte (omega (arith, c.ranges))
