-- `length_before` is the library's first place of b, or the length.
use Rattle.wire.proofs.WordLaws.{first_or_all}
use Rattle.wire.proofs.words.length_before.Goals as goal

pub returns : goal.returns
returns c = rw (c.unwrap_or.ensures, c.place_of.ensures) (first_or_all c.args.b c.args.bytes.now)
