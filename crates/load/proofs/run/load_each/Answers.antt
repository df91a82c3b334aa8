-- After k turns `load_each` has put the first k words.
use Rattle.std.proofs.Common.{◌+◌, ◌*◌, ap, ◌∙◌, arith}
use Rattle.wire.specs.Bytes.{put}
use Rattle.wire.proofs.Bytes.{put_nil}
use Rattle.load.specs.Load.{packed_words}
use Rattle.load.proofs.LoadLaws.{word_more, chunk_word}
use Rattle.load.proofs.run.load_each.Goals as goal

pub loop-k-init : goal.loop-k-init
unfolding packed_words
loop-k-init g c = put_nil _ _

pub loop-k-preserved : goal.loop-k-preserved
loop-k-preserved g c =
    let a = c.args in
    let k = c.loop-k.k in
    let n = c.as_chunks.ensures.front_len in
    let p = chunk_word g.row.W a.bytes.now k _ _ c.as_chunks.ensures.front c.index-words-k.is c.requires.0 c.requires.1 (omega (arith, n)) in
    word_more a.tables.now a.at g.row.W a.bytes.now k (omega arith) c.loop-k.invariant
    (c.put_u24.ensures ∙ ap (put c.loop-k.tables (a.at + 3 * k)) (c.word.ensures.0 ∙ p.1))
    (omega (arith, n))
