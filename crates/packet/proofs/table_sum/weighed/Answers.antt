-- `weighed` has added, turn by turn, the first words of the columns.
use Rattle.std.proofs.Common.{ℕ, ◌≡◌, ◌+◌, ◌*◌, ◌<◌, [], get_or, sym, ◌∙◌, arith}
use Rattle.wire.proofs.Bytes.{chunk_get}
use Rattle.packet.proofs.WordSums.{no_words, first_more}
use Rattle.packet.proofs.table_sum.weighed.Goals.{After-from}
use Rattle.packet.proofs.table_sum.weighed.Goals as goal

-- the numbers of the turn's word
read : (c : After-from) → (j p : ℕ) → j < 3 → 3 * c.loop-word.word-index + j ≡ p
    → get_or (get_or c.as_chunks.result.0.now c.loop-word.word-index []) j 0 ≡ get_or c.args.columns.now p 0
read c = chunk_get 3 _ c.loop-word.word-index c.args.columns.now _ c.as_chunks.ensures.front (omega (arith, c.as_chunks.ensures.front_len))

pub loop-word-init : goal.loop-word-init
loop-word-init c = (omega arith, sym (no_words _ 0))

pub loop-word-preserved : goal.loop-word-preserved
loop-word-preserved c =
    let v = c.loop-word.invariant in
    let columns = c.args.columns.now in
    let k = c.loop-word.word-index in
    let r = read (goal.at.loop-word-preserved c).After-from in
    let e₁ = c.from-high.ensures ∙ r 0 (3 * k) (omega arith) (omega arith) in
    let e₂ = c.from-middle.ensures ∙ r 1 (3 * k + 1) (omega arith) (omega arith) in
    let e₃ = c.from.ensures ∙ r 2 (3 * k + 2) (omega arith) (omega arith) in (
      omega (arith, v.0, e₁, e₂, e₃, c.fits-columns (3 * k), c.fits-columns (3 * k + 1), c.fits-columns (3 * k + 2)),
      omega (arith, v.1, first_more columns k, e₁, e₂, e₃),
    )
