-- `is_formed` reads the count only of a package that has one, and compares it with the bytes that came.
use Rattle.std.proofs.Common.{le-leb}
use borrow.Author.Tests.{lt-leb}
use Rattle.load.specs.Staging.{formed}
use Rattle.load.proofs.package.is_formed.Goals as goal

pub returns-then-bytes-lt2 : goal.returns-then-bytes-lt2
unfolding formed
returns-then-bytes-lt2 c = rw (lt-leb _ _ c.if-bytes-lt2.true)

pub returns : goal.returns
unfolding formed
returns c = rw (le-leb _ _ c.if-bytes-lt2.false, c.from-n.ensures, c.read.ensures)
