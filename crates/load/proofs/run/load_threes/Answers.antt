-- `load_threes` copies the bytes of the words.
use Rattle.std.proofs.Common.{ap, ◌∙◌, arith}
use Rattle.wire.specs.Bytes.{put}
use Rattle.load.proofs.LoadLaws.{packed_threes}
use Rattle.load.proofs.run.load_threes.Goals as goal

pub returns : goal.returns
returns c =
    let a = c.args in
    c.put_bytes.ensures ∙ ap (put a.tables.now a.at) (packed_threes a.bytes.now a.n (omega arith))
