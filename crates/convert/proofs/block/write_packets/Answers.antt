-- Each turn of `write_packets` puts one packet behind those that are written, and counts it.
use Rattle.std.proofs.Common.{ℕ, ◌-◌, ◌+◌, ◌*◌, ◌≡◌, refl, sym, ap, ◌∙◌, List, arith, add-one, length, take, drop, rules}
use borrow.Rule.Slice.PartMut.{put_mid}
use Rattle.wire.specs.Bytes.{put}
use Rattle.wire.proofs.Bytes.{put_mid_lem, length_part}
use Rattle.rate_code.specs.Editions.{mark_number}
use Rattle.packet.specs.Layout.{packet_bytes}
use Rattle.convert.specs.Block.{written, counted, written_all, counted_all}
use Rattle.convert.proofs.BlockLaws.{length_written, rest_kept, next_written, next_counted}
use Rattle.convert.proofs.block.write_packets.Goals as goal

pub loop-i-init : goal.loop-i-init
unfolding written_all counted_all
loop-i-init c = (omega arith, c.copy_from_slice.ensures.after, refl, search rules)

pub write_packet-after-requires : goal.write_packet-after-requires
write_packet-after-requires c =
    let a = c.args in
    let i = c.loop-i.i in
    let from : ℕ = packet_bytes * i in
    let n : ℕ = from + packet_bytes - from in (
      length_part a.block.now from n (omega arith) ∙ omega arith,
      ap (λ (ys : List ℕ). take n (drop from ys)) c.loop-i.invariant.1
          ∙ ap (take n) (rest_kept (mark_number a.wanted) i a.block.now (omega arith)),
    )

pub loop-i-preserved : goal.loop-i-preserved
loop-i-preserved c =
    let w = c.write_packet-after in
    let a = c.args in
    let i = c.loop-i.i in
    let v = c.loop-i.invariant in
    let block = a.block.now in
    let from : ℕ = packet_bytes * i in
    let to : ℕ = from + packet_bytes in
    let xs : List ℕ = take packet_bytes (drop from block) in
    let ys : List ℕ = written (mark_number a.wanted) xs in
    let n : to - from ≡ packet_bytes = omega arith in
    let ly : length ys ≡ to - from = length_written (mark_number a.wanted) xs (length_part block from packet_bytes (omega arith)) ∙ sym n in
    let e : w.new.out ≡ ys = w.ensures.out ∙ (λ j. written (mark_number a.wanted) (take (n j) (drop from block))) in (
      omega arith,
      ap (put_mid from (to - from) c.loop-i.out) e
          ∙ put_mid_lem from to c.loop-i.out ys (omega arith) ly
          ∙ ap (λ (zs : List ℕ). put zs from ys) v.1
          ∙ next_written (mark_number a.wanted) i block (omega arith)
          ∙ ap (λ (m : ℕ). written_all (mark_number a.wanted) m block) (sym (add-one i)),
      w.ensures.counts
          ∙ (λ j. counted (mark_number a.wanted) (v.2 j) (take (n j) (drop from block)))
          ∙ next_counted (mark_number a.wanted) i a.counts block
          ∙ ap (λ (m : ℕ). counted_all (mark_number a.wanted) m a.counts block) (sym (add-one i)),
      search rules,
    )
