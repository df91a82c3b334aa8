-- `run_load` writes the words that the reach fills, and a short last one where bytes are left.
use Rattle.std.proofs.Common.{◌≡◌, ℕ, ◌+◌, ◌-◌, ◌*◌, ◌/◌, List, length, take, sym, ap, ◌∙◌, arith}
use Rattle.std.proofs.lemmas.List.{length-take-le}
use Rattle.tables.specs.Tables.{first}
use Rattle.wire.specs.Bytes.{put}
use Rattle.load.specs.Load.{packing_number, word_width, load_words, packed_word, packed_words, loaded}
use Rattle.load.proofs.LoadLaws.{lawful_is, lawful_reach, width_small, words_whole, word_more}
use Rattle.load.proofs.run.run_load.Goals.{Start, After-words}
use Rattle.load.proofs.run.run_load.Goals as goal

length_bytes : (c : Start) → length (take c.args.reach c.args.staging.now) ≡ c.args.reach
length_bytes c =
    let a = c.args in
    length-take-le a.reach a.staging.now (omega (arith, lawful_reach a.a a.y a.reach c.requires.reach_value))

words : (c : After-words) → c.words.result ≡ load_words c.args.y c.args.reach
words c = c.words.ensures ∙ ap (λ (w : ℕ). (c.args.reach + (w - 1)) / w) c.from-packing.ensures

whole : (c : After-words) → c.load_whole-whole.result ≡ length (take c.args.reach c.args.staging.now) / word_width c.args.y
whole c = c.load_whole-whole.ensures.words ∙ ap (λ (w : ℕ). length (take c.args.reach c.args.staging.now) / w) c.from-packing.ensures

-- the words that the reach fills
filled : (c : After-words) → c.load_whole-whole.new.tables
    ≡ put c.args.tables.now (3 * (c.args.a - first))
    (packed_words (word_width c.args.y) (take c.args.reach c.args.staging.now) (length (take c.args.reach c.args.staging.now) / word_width c.args.y))
filled c =
    c.load_whole-whole.ensures.tables
    ∙ ap (λ (w : ℕ). put c.args.tables.now (3 * (c.args.a - first)) (packed_words w (take c.args.reach c.args.staging.now) (length (take c.args.reach c.args.staging.now) / w)))
    c.from-packing.ensures

pub load_whole-whole-requires : goal.load_whole-whole-requires
load_whole-whole-requires c =
    let a = c.args in
    let l = length_bytes (goal.at.load_whole-whole-requires c).Start in
    let q = lawful_is a.a a.y a.reach c.requires.reach_value in
    let d : length (take a.reach a.staging.now) / word_width (packing_number c.from-packing.result) ≡ a.reach / word_width a.y =
    λ i. l i / c.from-packing.ensures i in
    omega (arith, d, words_whole a.y a.reach)

pub load_word-requires-clause-k_in_bounds : goal.load_word-requires-clause-k_in_bounds
load_word-requires-clause-k_in_bounds c =
    let a = c.args in
    let s = (goal.at.load_word-requires-clause-k_in_bounds c).After-words in
    let l = length_bytes (goal.at.load_word-requires-clause-k_in_bounds c).Start in
    let q = lawful_is a.a a.y a.reach c.requires.reach_value in
    let k : c.load_whole-whole.result ≡ a.reach / word_width a.y = whole s ∙ ap (λ (n : ℕ). n / word_width a.y) l in
    let e = words s in
    omega arith

pub returns-then-whole-words : goal.returns-then-whole-words
unfolding loaded
returns-then-whole-words c =
    let a = c.args in
    let s = (goal.at.returns-then-whole-words c).After-words in
    let w : ℕ = word_width a.y in
    let bytes : List ℕ = take a.reach a.staging.now in
    let k : ℕ = length bytes / w in
    let at : ℕ = 3 * (a.a - first) in
    let kk = whole s in
    let n = words s ∙ ap (load_words a.y) (sym (length_bytes (goal.at.returns-then-whole-words c).Start)) in
    let q = lawful_is a.a a.y a.reach c.requires.reach_value in
    let ww = c.width.ensures.0 ∙ c.from-packing.ensures in
    let all : k + 1 ≡ load_words a.y (length bytes) = omega (arith, words_whole a.y (length bytes), kk, n) in
    word_more a.tables.now at w bytes k (width_small a.y) (filled s)
    (c.load_word.ensures ∙ (λ i. put c.load_whole-whole.new.tables (at + 3 * kk i) (packed_word (ww i) bytes (kk i))))
    (omega (arith, words s, kk))
    ∙ ap (λ (m : ℕ). put a.tables.now at (packed_words w bytes m)) all

pub returns-else-whole-words : goal.returns-else-whole-words
unfolding loaded
returns-else-whole-words c =
    let a = c.args in
    let s = (goal.at.returns-else-whole-words c).After-words in
    let bytes : List ℕ = take a.reach a.staging.now in
    let n = words s ∙ ap (load_words a.y) (sym (length_bytes (goal.at.returns-else-whole-words c).Start)) in
    let all : length bytes / word_width a.y ≡ load_words a.y (length bytes) = omega (arith, words_whole a.y (length bytes), whole s, n) in
    filled s ∙ ap (λ (m : ℕ). put a.tables.now (3 * (a.a - first)) (packed_words (word_width a.y) bytes m)) all
