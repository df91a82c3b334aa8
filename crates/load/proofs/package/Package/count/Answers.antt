-- The count is there in a well formed package.
use Rattle.std.proofs.Common.{arith}
use Rattle.load.proofs.StagingLaws.{formed_is}
use Rattle.load.proofs.package.Package.count.Goals as goal

pub read-requires : goal.read-requires
read-requires c = let f = formed_is c.args.self.now.bytes.now c.args.self.now.well_formed in omega arith
