-- The ground reads every packet that a close writes, and what the checks of a close passed puts their values in range.
-- Assumes nothing.
use Rattle.std.proofs.Common.{◌≡◌, refl, sym, ap, ap₂, ◌∙◌, true, List, [], ◌∷◌, ◌++◌, ℕ, zero, suc, ◌+◌, ◌*◌, ◌≤◌, ◌<◌, arith, leb-true}
use Rattle.std.proofs.Common.{eq-eqb, get_or, get_or-append-add, length, length-append, take, take-add, take_all}
use Rattle.wire.specs.Bytes.{at16, words, zeros}
use Rattle.wire.specs.Lists.{all, EachBelow}
use Rattle.wire.proofs.Lists.{each_part, each_append, all_part}
use Rattle.wire.proofs.Pieces.{words_append}
use Rattle.capacity.specs.Capacity.{numbers_of}
use Rattle.capacity.specs.declared.Capacity.{Capacity}
use Rattle.capacity.specs.declared.Capacity.TheVariants.{Slots704}
use Rattle.capacity.proofs.NumberLaws.{slots_in_packets}
use Rattle.sample_record.specs.Record.{record_good}
use Rattle.rate_code.specs.Rate.{count_limit}
use Rattle.rate_code.specs.Second.{second_code}
use Rattle.rate_code.specs.Editions.{second_mark}
use Rattle.packet.specs.Layout.{body_at, code_bytes, beacon_unused}
use Rattle.packet.specs.Packet.{stamp_of, beacon_application, beacon_body, beacon_packet}
use Rattle.packet.proofs.Written.{length_beacon_body}
use Rattle.packet.specs.TableSum.{table_sum}
use Rattle.decode.specs.Limits.{last_sample, largest_limhi, last_mark}
use Rattle.decode.specs.Ranges.{StampFits, SampleValues, BeaconValues}
use Rattle.decode.proofs.Back.{code_back}
use Rattle.decode.proofs.Accepted.{stamp_fits}
use Rattle.samples.specs.Samples.{filled}
use Rattle.ground.specs.Ground.{read_of, records_of}
use Rattle.ground.proofs.Back.{rate_back, sample_back, beacon_back}
use Rattle.state.specs.Limits.{within_limits}
use Rattle.state.specs.Interval.{interval_within}
use Rattle.state.proofs.LimitLaws.{state_limits}
use Rattle.output.specs.Ended.{summary_of}
use Rattle.output.specs.Output.{beacon_rates_in, written, packet_at, beacon_place}
use Rattle.output.proofs.OutputLaws.{totals_fit, boxes_fit, beacons_fit, samples_fit, Lengths, slots_in, slots_length}
use Rattle.output.proofs.OutputLaws.{written_length, rate_placed, sample_placed, beacon_placed}
use Rattle.processor.specs.Close.{close_number, close_done}
use Rattle.processor.proofs.CallLaws.{close_accepted}
use Rattle.tally.specs.World.{World}
use Rattle.tally.specs.Calls.{Sent, sent_in}
use Rattle.tally.proofs.WhenLaws.{slots_said}
use Rattle.downlink.specs.Downlink.{records_read, ReceivedWhole, Fits, PacketsReceived, Typed, CloseReceived, CloseCarried}

-- ---- any packets whose values are in range

module _ (e : Sent) (f : Fits e) where
  -- what the beacon packet carries behind the beacons
  abbrev sample_counts : List ℕ
  sample_counts = e.ended.summary.eligible ∷ e.ended.summary.replaced ∷ e.ended.summary.dropped ∷ []

  stamped : (p : ℕ) (bitmap : ℕ) → p ≤ bitmap → StampFits bitmap (stamp_of e.ended.frame e.ended.time p)
  stamped p bitmap h = stamp_fits e.ended.frame e.ended.time p bitmap f.frame_fits f.time_fits h

  beacons_are : length e.ended.summary.counts.beacons ≡ 12
  beacons_are = omega (arith, length-append e.ended.summary.counts.beacons sample_counts, f.beacons_fit.rates_are)

  lengths : Lengths e.ended e.span
  lengths = record {
    totals_are = f.rates_fit.totals_are;
    boxes_are = f.rates_fit.boxes_are;
    beacons_are = beacons_are;
    slots_enough = f.slots_enough;
  }

  slots_in_range : (i : ℕ) → i < e.span.many → SampleValues (slots_in e.ended e.span lengths i)
  slots_in_range i h = record {
    records_are = slots_length e.ended e.span lengths i h;
    records_fit = each_part 4294967296 e.ended.slots (64 * i) 64 (omega arith) f.slots_fit;
    records_good_lem = all_part record_good e.ended.slots (64 * i) 64 f.slots_good;
  }

  -- p of the sample packet with the slots from 64i on
  p_fits : (i : ℕ) → i < e.span.many → e.span.first + i ≤ last_sample
  p_fits i h = omega (arith, f.samples_fit)

  -- the records of the first n sample packets are the words of their slots
  records_read_lem : (n : ℕ) → n ≤ e.span.many → records_read (written e.ended e.span) n ≡ words (take (64 * n) e.ended.slots)
  unfolding records_read words
  records_read_lem zero h = refl
  records_read_lem (suc n) h =
      let l : n < e.span.many = omega arith in
      let more : 64 * n + 64 ≡ 64 * suc n = omega arith in
      ap₂ (λ (a b : List ℕ). a ++ b) (records_read_lem n (omega arith))
      (ap records_of (sample_placed e.ended e.span lengths n l)
      ∙ (sample_back _ (slots_in e.ended e.span lengths n) (stamped _ last_sample (p_fits n l)) (slots_in_range n l)).1)
      ∙ words_append (take (64 * n) e.ended.slots) (slots_in e.ended e.span lengths n)
      ∙ ap words (sym (take-add (64 * n) 64 e.ended.slots) ∙ ap (λ (k : ℕ). take k e.ended.slots) more)

  -- the codes behind those of the beacons
  sample_code : (i : ℕ) → i < 3
      → at16 (packet_at (written e.ended e.span) (beacon_place e.span)) (35 + 2 * i) ≡ second_code (get_or sample_counts i 0)
  unfolding beacon_packet
  sample_code i h =
      let rates = beacon_rates_in e.ended.summary in
      let l = f.beacons_fit.rates_are in
      let at : 35 + 2 * i ≡ body_at + code_bytes * (12 + i) = omega arith in
      ap (λ (x : List ℕ). at16 x (35 + 2 * i)) (beacon_placed e.ended e.span lengths)
      ∙ ap (at16 _) at
      ∙ code_back beacon_application (stamp_of e.ended.frame e.ended.time second_mark) (beacon_body second_mark rates)
      (length_beacon_body second_mark rates l) second_mark rates (zeros beacon_unused) refl (12 + i) (omega (arith, l))
      ∙ ap second_code (rw (← beacons_are) (get_or-append-add e.ended.summary.counts.beacons sample_counts i 0))

pub packets_received : PacketsReceived
packets_received e f =
    let l = lengths e f in
    let second : StampFits last_mark (stamp_of e.ended.frame e.ended.time second_mark) = stamped e f second_mark last_mark (omega arith) in
    record {
      whole = written_length e.ended e.span l;
      rates = ap read_of (rate_placed e.ended e.span l)
          ∙ (rate_back _ e.ended.totals e.ended.summary.counts.boxes e.ended.settings _ second f.rates_fit).0;
      samples = λ i h. ap read_of (sample_placed e.ended e.span l i h)
          ∙ (sample_back _ _ (stamped e f _ last_sample (p_fits e f i h)) (slots_in_range e f i h)).0;
      records = records_read_lem e f e.span.many (omega arith);
      beacons = ap read_of (beacon_placed e.ended e.span l)
          ∙ (beacon_back _ (beacon_rates_in e.ended.summary) second f.beacons_fit).0;
      eligible_at = sample_code e f 0 (omega arith);
      replaced_at = sample_code e f 1 (omega arith);
      dropped_at = sample_code e f 2 (omega arith);
    }

pub whole_received : (e : Sent) → Fits e → 64 * e.span.many ≡ length e.ended.slots → ReceivedWhole e (written e.ended e.span)
whole_received e f l =
    let r = packets_received e f in
    record { received = r; all_records = r.records ∙ ap words (take_all (64 * e.span.many) e.ended.slots (omega arith)) }

-- ---- a close that is carried out

-- the reader takes every p and every LIMHI of each capacity
samples_read : (c : Capacity) → (numbers_of c).samples ≤ last_sample + 1
samples_read Slots704 = omega arith

limhi_read : (c : Capacity) → (numbers_of c).limhi ≤ largest_limhi
limhi_read Slots704 = omega arith

three_below : {a b c : ℕ} → a < count_limit → b < count_limit → c < count_limit → EachBelow count_limit (a ∷ b ∷ c ∷ [])
three_below x y z zero = x
three_below x y z (suc zero) = y
three_below x y z (suc (suc zero)) = z
three_below x y z (suc (suc (suc k))) = omega arith

sum_fits : (tables : List ℕ) → table_sum tables < 16777216
unfolding table_sum
sum_fits tables = omega arith

-- the beacons and the samples' counts of an interval within its limits
rates_fit_in : (w : World) {time : ℕ} → Typed (sent_in w time).ended
    → interval_within (numbers_of w.state.capacity).slots w.state.interval ≡ true
    → BeaconValues (beacon_rates_in (summary_of w.state w.buffers.slots))
rates_fit_in w y h =
    let i = w.state.interval in
    let s = samples_fit _ i h (filled w.buffers.slots) in
    let three = i.samples.eligible ∷ i.samples.slots.replaced ∷ (summary_of w.state w.buffers.slots).dropped ∷ [] in
    record {
      rates_are = length-append i.counts.beacons three ∙ omega (arith, y.beacons_are);
      rates_fit = each_append count_limit i.counts.beacons three (beacons_fit _ i h) (three_below s.0 s.1 s.2);
    }

-- a state within its limits has values in range, where the slots are good
pub world_fits : (w : World) (time : ℕ) → Typed (sent_in w time).ended → within_limits w.state ≡ true
    → length w.buffers.slots ≡ (numbers_of w.state.capacity).slots → all record_good w.buffers.slots ≡ true → Fits (sent_in w time)
world_fits w time y h ls good =
    let l = state_limits w.state h in
    let i = w.state.interval in
    let c = w.state.capacity in
    record {
      frame_fits = y.frame_fits;
      time_fits = y.time_fits;
      rates_fit = record {
        totals_are = y.totals_are;
        boxes_are = y.boxes_are;
        totals_fit = totals_fit _ i l.interval;
        boxes_fit = boxes_fit _ i l.interval;
        limhi_fits = omega (arith, leb-true w.state.settings.limhi (numbers_of c).limhi l.settings, limhi_read c);
        hvstep_fits = y.hvstep_fits;
        sum_fits = sum_fits w.buffers.tables;
      };
      beacons_fit = rates_fit_in w y l.interval;
      samples_fit = omega (arith, samples_read c);
      slots_enough = omega (arith, ls, slots_in_packets c);
      slots_fit = y.slots_fit;
      slots_good = good;
    }

pub close_received : CloseReceived
unfolding close_done
close_received w time out y h =
    let c = close_accepted w.state _ _ w.buffers.slots _ h in
    let f = world_fits w time y c.limits c.lent.slots_are c.lent.slots_good in
    rw h (whole_received (sent_in w time) f (omega (arith, c.lent.slots_are, slots_in_packets w.state.capacity)))

pub close_carried : CloseCarried
unfolding close_done close_number
close_carried w time out h =
    rw (
      h.limits,
      eq-eqb _ _ h.tables_are,
      eq-eqb _ _ h.staging_is,
      eq-eqb _ _ h.slots_are,
      eq-eqb _ _ h.out_is,
      slots_said w.buffers.slots h.slots_right,
    )
