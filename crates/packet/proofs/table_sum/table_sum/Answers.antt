-- `table_sum` has added, block by block, the words of the first blocks; the last three words are added behind the loop.
use Rattle.std.proofs.Common.{ℕ, ◌≡◌, ◌+◌, ◌*◌, ◌/◌, ◌%◌, List, length, drop, sym, ap, ◌∙◌, arith}
use Rattle.wire.specs.Bytes.{at24}
use Rattle.tables.specs.Tables.{table_words}
use Rattle.packet.specs.TableSum.{word_sum, table_sum}
use Rattle.packet.proofs.WordSums.{no_words, first_more, words_split, words_by_address, chunk_words, word_behind}
use Rattle.packet.proofs.table_sum.table_sum.Goals as goal

module _ (tables : List ℕ) where
  block_more : (k : ℕ) → word_sum tables 0 (2624 * (k + 1)) ≡ word_sum tables 0 (2624 * k) + word_sum tables (7872 * k) 2624
  block_more k =
      let n : 2624 * (k + 1) ≡ 2624 * k + 2624 = omega arith in
      let e : 0 + 3 * (2624 * k) ≡ 7872 * k = omega arith in
      ap (word_sum tables 0) n
      ∙ words_split tables 0 (2624 * k) 2624
      ∙ ap (λ (at : ℕ). word_sum tables 0 (2624 * k) + word_sum tables at 2624) e

  -- and the three behind the last block
  three_more : {rest : List ℕ} → rest ≡ drop 62976 tables
      → word_sum tables 0 table_words ≡ word_sum tables 0 20992 + at24 rest 0 + at24 rest 3 + at24 rest 6
  three_more e =
      let behind : (at : ℕ) → at24 _ at ≡ at24 tables (62976 + at) = λ at. ap (λ (r : List ℕ). at24 r at) e ∙ word_behind 62976 tables at in
      omega (arith, first_more tables 20994, first_more tables 20993, first_more tables 20992, behind 0, behind 3, behind 6)

pub loop-block-init : goal.loop-block-init
loop-block-init c = (omega arith, sym (no_words _ 0))

pub loop-block-preserved : goal.loop-block-preserved
loop-block-preserved c =
    let v = c.loop-block.invariant in
    let tables = c.args.tables.now in
    let k = c.loop-block.block-index in
    let more = block_more tables k in
    let words = chunk_words 7872 _ k tables _ c.as_chunks.ensures.front (omega (arith, c.as_chunks.ensures.front_len)) 2624 (omega arith) in (
      omega (arith, v.0, c.block_sum-sum.ensures.1),
      omega (arith, v.1, c.block_sum-sum.ensures.0, words, more),
    )

pub returns : goal.returns
unfolding table_sum
returns c =
    let tables = c.args.tables.now in
    let m : length tables / 7872 * 7872 ≡ 62976 = omega (arith, c.told-tables) in
    let rest = c.as_chunks.ensures.back ∙ ap (λ (n : ℕ). drop n tables) m in
    let n : 2624 * c.loop-block.block-index ≡ 20992 = omega (arith, c.as_chunks.ensures.front_len, c.told-tables) in
    let e = c.loop-block.invariant.1 ∙ ap (word_sum tables 0) n in
    let ea = c.from-sum.ensures ∙ c.u24_at.ensures.0 in
    let eb = c.from-sum-2.ensures ∙ c.u24_at-2.ensures.0 in
    let ec = c.from-sum-3.ensures ∙ c.u24_at-3.ensures.0 in (
      (λ i. (e i + ea i + eb i + ec i) % 16777216)
          ∙ ap (λ (n : ℕ). n % 16777216) (sym (words_by_address tables table_words ∙ three_more tables rest)),
      omega arith,
    )
