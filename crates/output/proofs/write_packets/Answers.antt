-- Rate packet, sample packets and beacon packet, put one behind the other, fill the output.
use Rattle.std.proofs.Common.{ℕ, ◌+◌, ◌-◌, ◌*◌, ◌≡◌, sym, ap, ◌∙◌, List, ◌++◌, arith, length, length-append, rules}
use borrow.Rule.Slice.PartMut.{put_mid}
use Rattle.wire.specs.Bytes.{put}
use Rattle.wire.proofs.Bytes.{then, put_all, put_mid_lem}
use Rattle.rate_code.specs.Editions.{second_mark}
use Rattle.packet.specs.Packet.{packet_bytes, stamp_of, rate_packet, beacon_rates, beacon_packet}
use Rattle.packet.specs.TableSum.{table_sum}
use Rattle.state.proofs.LimitLaws.{state_limits}
use Rattle.samples.specs.Samples.{filled}
use Rattle.output.specs.declared.Summary.{Summary}
use Rattle.output.specs.Ended.{summary_of}
use Rattle.output.specs.Output.{samples_of, beacon_rates_in, written}
use Rattle.output.proofs.OutputLaws.{totals_fit, boxes_fit, beacons_fit, samples_fit, length_samples}
use Rattle.output.proofs.write_packets.Goals as goal

pub invariant_of-body : goal.invariant_of-body
invariant_of-body c =
    let w = (state_limits c.args.s.now c.requires.s_value.0).interval in
    record {
      totals_fit = totals_fit _ c.args.s.now.interval w;
      boxes_fit = boxes_fit _ c.args.s.now.interval w;
      sum_fits = c.sum_of-sum.ensures.1;
    }

pub invariant_of-body-2 : goal.invariant_of-body-2
invariant_of-body-2 c =
    let i = c.args.s.now.interval in
    let w = (state_limits c.args.s.now c.requires.s_value.0).interval in
    let f = samples_fit _ i w (filled c.args.slots.now) in
    let e = c.requires.summary_value in
    record {
      beacons_fit = beacons_fit _ i w;
      samples_fit = (
        omega (arith, f.0, ap (λ (s : Summary). s.eligible) e),
        omega (arith, f.1, ap (λ (s : Summary). s.replaced) e),
        omega (arith, f.2, ap (λ (s : Summary). s.dropped) e),
      );
    }

pub returns : goal.returns
unfolding written
returns c =
    let a = c.args in
    let x = a.s.now in
    let xs = a.out.now in
    let many = a.span.many in
    let stamp = stamp_of x.frame a.time second_mark in
    let sum = table_sum a.tables.now in
    let R : List ℕ = rate_packet stamp x.interval.totals x.interval.counts.boxes x.settings sum in
    let S : List ℕ = samples_of x.frame a.time a.slots.now a.span.first many in
    let E : List ℕ = beacon_packet stamp (beacon_rates_in (summary_of x a.slots.now)) in
    let x₂ : List ℕ = c.write_samples.new.out in
    let e₀ : c.write_rate.new.part ≡ R =
    c.write_rate.ensures
    ∙ (λ j. rate_packet (c.stamp_of-stamp.ensures j) x.interval.totals x.interval.counts.boxes x.settings (c.sum_of-sum.ensures.0 j)) in
    let eᵦ : c.write_beacon.new.part ≡ E =
    c.write_beacon.ensures ∙ (λ j.
    let k = c.requires.summary_value j in
    beacon_packet (c.stamp_of-stamp.ensures j) (beacon_rates x.interval.counts.beacons k.eligible k.replaced k.dropped)) in
    let l₀ : length c.write_rate.new.part ≡ packet_bytes = search rules in
    let lᵦ : length c.write_beacon.new.part ≡ packet_bytes = search (rules, c.span_bytes-e.ensures) in
    let lr : length R ≡ packet_bytes = sym (ap length e₀) ∙ l₀ in
    let ls : length S ≡ packet_bytes * many =
    length_samples x.frame a.time a.slots.now a.span.first many c.requires.many_in_bounds.0 in
    let le : length E ≡ packet_bytes = sym (ap length eᵦ) ∙ lᵦ in
    let lrs : length (R ++ S) ≡ packet_bytes * (many + 1) = omega (arith, length-append R S) in
    let e₁ : put_mid 0 packet_bytes xs c.write_rate.new.part ≡ put xs 0 R =
    ap (put_mid 0 packet_bytes xs) e₀ ∙ put_mid_lem 0 packet_bytes xs R (omega arith) (omega arith) in
    let e₂ : x₂ ≡ put xs 0 (R ++ S) = then xs 0 R S packet_bytes e₁ c.write_samples.ensures (omega arith) (omega arith) in
    let to : ℕ = c.span_bytes-e.result in
    let at : ℕ = to - packet_bytes in
    let q : to ≡ packet_bytes * (many + 2) = c.span_bytes-e.ensures in
    let e₃ : put_mid at (to - at) x₂ c.write_beacon.new.part ≡ put x₂ at E =
    ap (put_mid at (to - at) x₂) eᵦ ∙ put_mid_lem at to x₂ E (omega arith) (omega arith) in
    then xs 0 (R ++ S) E at e₂ e₃ (omega arith) (omega arith) ∙ put_all xs (R ++ S ++ E) (omega (arith, length-append (R ++ S) E))
