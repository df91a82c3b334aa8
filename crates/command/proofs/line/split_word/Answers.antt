-- `split_word` cuts the words at their first space.
use Rattle.std.proofs.Common.{◌+◌, arith, add-one}
use Rattle.command.proofs.WordLaws.{words_more, rest_is}
use Rattle.command.proofs.line.split_word.Goals as goal

pub returns : goal.returns
returns c =
    let w = c.args.words.now in
    let n = c.length_before-n.result in
    rw (rest_is w (n + 1), add-one, c.length_before-n.ensures.0) (words_more w (omega arith))
