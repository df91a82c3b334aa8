-- A byte sets one place, which is putting a list of one byte.
use Rattle.std.proofs.Common.{arith}
use Rattle.wire.specs.Bytes.{one}
use Rattle.wire.proofs.Bytes.{put_sets}
use Rattle.wire.proofs.number.U8BigEndian.put.Goals as goal

pub returns : goal.returns
returns c = put_sets (one c.args.self) c.args.part.now c.args.at (omega arith)
