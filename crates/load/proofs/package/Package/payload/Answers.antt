-- `payload` lends what stands between the count and the sum.
use Rattle.std.proofs.Common.{arith}
use Rattle.load.proofs.StagingLaws.{formed_is}
use Rattle.load.proofs.package.Package.payload.Goals as goal

pub slice_bounds-result-count : goal.slice_bounds-result-count
slice_bounds-result-count c = let f = formed_is c.args.self.now.bytes.now c.args.self.now.well_formed in omega arith

pub slice_bounds-result-start : goal.slice_bounds-result-start
slice_bounds-result-start c = let f = formed_is c.args.self.now.bytes.now c.args.self.now.well_formed in omega arith

pub slice_bounds-result-end : goal.slice_bounds-result-end
slice_bounds-result-end c = let f = formed_is c.args.self.now.bytes.now c.args.self.now.well_formed in omega arith
