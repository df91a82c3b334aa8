-- Each turn of `write_samples` adds one sample packet behind those that are written.
use Rattle.std.proofs.Common.{ℕ, ◌-◌, ◌+◌, ◌*◌, ◌≡◌, refl, sym, ap, ◌∙◌, List, arith, add-one, length, take, drop, rules}
use borrow.Rule.Slice.PartMut.{put_mid}
use Rattle.wire.specs.Bytes.{put}
use Rattle.wire.proofs.Bytes.{put_put, put_nil, put_mid_lem, length_part}
use Rattle.packet.specs.Packet.{packet_bytes, stamp_of, sample_packet}
use Rattle.output.specs.Output.{samples_of}
use Rattle.packet.proofs.Written.{length_sample}
use Rattle.output.proofs.OutputLaws.{length_samples}
use Rattle.output.proofs.write_samples.Goals as goal

pub loop-i-init : goal.loop-i-init
unfolding samples_of
loop-i-init c = (put_nil _ _, refl)

pub loop-i-preserved : goal.loop-i-preserved
unfolding samples_of
loop-i-preserved c =
    let a = c.args in
    let i = c.loop-i.i in
    let p : ℕ = a.s.first + i in
    let slots = a.slots.now in
    let done : List ℕ = samples_of a.frame a.time slots a.s.first i in
    let part : List ℕ = take 64 (drop (64 * i) slots) in
    let pk : List ℕ = sample_packet (stamp_of a.frame a.time p) part in
    let n : ℕ = c.from-k.result in
    let q : n ≡ i = c.from-k.ensures in
    let A : ℕ = packet_bytes * (n + 1) in
    let E : ℕ = packet_bytes * (n + 2) in
    let k : 64 * n + 64 - 64 * n ≡ 64 = omega arith in
    let e : c.write_samples.new.part ≡ pk = c.write_samples.ensures ∙ (λ j. sample_packet (c.stamp_of-stamp.ensures j) (take (k j) (drop (64 * q j) slots))) in
    let lk : length pk ≡ packet_bytes = length_sample (stamp_of a.frame a.time p) part (length_part slots (64 * i) 64 (omega arith)) in
    let ld : length done ≡ packet_bytes * i = length_samples a.frame a.time slots a.s.first i (omega arith) in (
      ap (λ (y : List ℕ). put_mid A (E - A) c.loop-i.out y) e
          ∙ put_mid_lem A E c.loop-i.out pk (omega arith) (omega arith)
          ∙ ap (λ (x : List ℕ). put x A pk) c.loop-i.invariant.0
          ∙ put_put a.out.now packet_bytes done pk A (omega arith) (omega arith)
          ∙ ap (λ (n : ℕ). put a.out.now packet_bytes (samples_of a.frame a.time slots a.s.first n)) (sym (add-one i)),
      search rules,
    )
