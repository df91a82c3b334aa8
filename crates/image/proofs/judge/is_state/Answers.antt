-- After i turns `is_state` has judged the first i entries.
use Rattle.std.proofs.Common.{ℕ, ◌≡◌, ◌+◌, ◌*◌, ◌<◌, [], drop, ap, ◌∙◌, arith}
use Rattle.std.specs.Prelude.{get_or}
use Rattle.std.proofs.lemmas.List.{length-take, length-drop}
use Rattle.wire.proofs.Bytes.{chunk_byte}
use Rattle.wire.proofs.Pieces.{each_start, each_turn, each_end}
use Rattle.image.specs.Layout.{entries_at, entry_bytes}
use Rattle.image.specs.Image.{entry_good, image_good}
use Rattle.image.proofs.judge.is_state.Invariants.{right}
use Rattle.image.proofs.judge.is_state.Goals as goal

pub loop-entry-init : goal.loop-entry-init
loop-entry-init c = each_start (right c.args.image.now)

pub loop-entry-preserved : goal.loop-entry-preserved
loop-entry-preserved c =
    let b = c.args.image.now in
    let i = c.loop-entry.entry-index in
    let at = entries_at + entry_bytes * i in
    let l = length-take 192 (drop entries_at b) in
    let m = length-drop entries_at b in
    let f = c.as_chunks.ensures in
    let h : (j p : ℕ) → j < entry_bytes → entries_at + (entry_bytes * i + j) ≡ p → get_or (get_or c.as_chunks.result.0.now i []) j 0 ≡ get_or b p 0 =
    λ j p s q. chunk_byte entry_bytes entries_at 192 _ i b _ f.front (omega (arith, f.front_len)) j p s (omega (arith, f.front_len, l, m)) q in
    let entry = get_or c.as_chunks.result.0.now i [] in
    each_turn (right b) i c.loop-entry.invariant
    (c.entry_good-ok.ensures
    ∙ ap (entry_good (get_or entry 0 0)) c.read.ensures
    ∙ (λ t. entry_good (h 0 at (omega arith) (omega arith) t)
    (16777216 * h 1 (at + 1) (omega arith) (omega arith) t
    + 65536 * h 2 (at + 1 + 1) (omega arith) (omega arith) t
    + 256 * h 3 (at + 1 + 2) (omega arith) (omega arith) t
    + h 4 (at + 1 + 3) (omega arith) (omega arith) t)))

pub returns : goal.returns
unfolding image_good
returns c =
    let b = c.args.image.now in
    let l = length-take 192 (drop entries_at b) in
    let m = length-drop entries_at b in
    each_end (right b) c.loop-entry.entry-index 32 (omega (arith, l, m)) (omega (arith, l, m)) c.loop-entry.invariant
