-- The packets fill the output, each stands in its place, and what the limits hold has a rate code. Assumes nothing.
use Rattle.std.proofs.Common.{◌≡◌, refl, sym, ap, ◌∙◌, true, List, [], ◌++◌, append_assoc, append-nil, ℕ, zero, suc, ◌+◌, ◌*◌, ◌≤◌}
use Rattle.std.proofs.Common.{◌<◌, arith, eqb-true, eqb, length, take, drop, length-append, drop_at, take_at}
use borrow.Author.Tests.{eqb-false}
use Rattle.wire.specs.Bytes.{words}
use Rattle.wire.specs.Lists.{EachBelow}
use Rattle.wire.proofs.Bytes.{length_part, length_words}
use Rattle.wire.proofs.Lists.{decide}
use Rattle.boxes.specs.Boxes.{box_count, beacon_count, total_count}
use Rattle.packet.specs.Layout.{beacon_rate_count}
use Rattle.packet.specs.Packet.{packet_bytes, sample_application, stamp_of, rate_packet, sample_packet, beacon_packet}
use Rattle.decode.proofs.Back.{body_part}
use Rattle.rate_code.specs.Rate.{count_limit}
use Rattle.rate_code.specs.Editions.{second_mark}
use Rattle.packet.proofs.Written.{length_rate, length_sample, length_beacon}
use Rattle.state.specs.declared.interval.Interval.{Interval}
use Rattle.state.specs.Interval.{interval_within}
use Rattle.state.proofs.LimitLaws.{interval_limits, boxes_below, beacons_below, totals_below}
use Rattle.output.specs.declared.Span.{Span}
use Rattle.output.specs.Ended.{dropped_in, Ended}
use Rattle.output.specs.Output.{span_bytes, samples_of, beacon_rates_in, written, packet_at, rate_place, sample_place, beacon_place}

-- ---- the limits of an interval with this many slots

module _ (slots : ℕ) (i : Interval) (w : interval_within slots i ≡ true) where
  pub totals_fit : EachBelow count_limit i.totals
  totals_fit k = omega (arith, totals_below slots i w k)

  pub boxes_fit : EachBelow count_limit i.counts.boxes
  boxes_fit = boxes_below count_limit slots i w (omega (arith, (interval_limits slots i w).taken_most))

  pub beacons_fit : EachBelow count_limit i.counts.beacons
  beacons_fit = beacons_below count_limit slots i w (omega (arith, (interval_limits slots i w).taken_most))

  -- so of the samples' counts, whatever is filled
  pub samples_fit : (filled : ℕ)
      → (i.samples.eligible < count_limit) × (i.samples.slots.replaced < count_limit)
      × (dropped_in i.samples.eligible filled i.samples.slots.replaced < count_limit)
  samples_fit filled =
      let l = interval_limits slots i w in
      let eligible : i.samples.eligible < count_limit = omega (arith, l.eligible_taken, l.taken_most) in
      (eligible, omega (arith, l.replaced_taken, l.taken_most), omega (arith, eligible))

-- ---- lengths

pub length_samples : (frame time : ℕ) (slots : List ℕ) (first n : ℕ) → 64 * n ≤ length slots
    → length (samples_of frame time slots first n) ≡ packet_bytes * n
unfolding samples_of
length_samples frame time slots first zero h = refl
length_samples frame time slots first (suc n) h =
    let records : List ℕ = take 64 (drop (64 * n) slots) in
    let l : length records ≡ 64 = length_part slots (64 * n) 64 (omega arith) in
    length-append (samples_of frame time slots first n) (sample_packet (stamp_of frame time (first + n)) records)
    ∙ omega (arith, length_samples frame time slots first n (omega arith), length_sample (stamp_of frame time (first + n)) records l)

-- what packets are written from has its lengths, and slots for each of the sample packets
pub record Lengths (e : Ended) (s : Span) : Type 0 where
  pub totals_are : length e.totals ≡ total_count
  pub boxes_are : length e.summary.counts.boxes ≡ box_count
  pub beacons_are : length e.summary.counts.beacons ≡ beacon_count
  pub slots_enough : 64 * s.many ≤ length e.slots

pub rates_are : (e : Ended) (s : Span) → Lengths e s → length (beacon_rates_in e.summary) ≡ beacon_rate_count
rates_are e s l = length-append e.summary.counts.beacons _ ∙ omega (arith, l.beacons_are)

-- ---- places

-- the packet behind k others
packet_at_lem : (before here rest : List ℕ) (k : ℕ) → length before ≡ packet_bytes * k → length here ≡ packet_bytes
    → packet_at (before ++ here ++ rest) k ≡ here
packet_at_lem before here rest k lb lh =
    rw (append_assoc before here rest, drop_at before (here ++ rest) (packet_bytes * k) lb) (take_at here rest packet_bytes lh)

module _ (e : Ended) (s : Span) (l : Lengths e s) where
  abbrev pub rate : List ℕ
  rate = rate_packet (stamp_of e.frame e.time second_mark) e.totals e.summary.counts.boxes e.settings e.sum

  abbrev pub slots_in : (i : ℕ) → List ℕ
  slots_in i = take 64 (drop (64 * i) e.slots)

  abbrev pub sample : (i : ℕ) → List ℕ
  sample i = sample_packet (stamp_of e.frame e.time (s.first + i)) (slots_in i)

  abbrev samples : ℕ → List ℕ
  samples n = samples_of e.frame e.time e.slots s.first n

  abbrev pub beacon : List ℕ
  beacon = beacon_packet (stamp_of e.frame e.time second_mark) (beacon_rates_in e.summary)

  rate_length : length rate ≡ packet_bytes
  rate_length = length_rate _ e.totals e.summary.counts.boxes e.settings e.sum l.totals_are l.boxes_are

  pub slots_length : (i : ℕ) → i < s.many → length (slots_in i) ≡ 64
  slots_length i h = length_part e.slots (64 * i) 64 (omega (arith, l.slots_enough))

  beacon_length : length beacon ≡ packet_bytes
  beacon_length = length_beacon _ (beacon_rates_in e.summary) (rates_are e s l)

  -- rate packet and n sample packets
  before_length : (n : ℕ) → n ≤ s.many → length (rate ++ samples n) ≡ packet_bytes * (n + 1)
  before_length n h =
      length-append rate (samples n)
      ∙ omega (arith, rate_length, length_samples e.frame e.time e.slots s.first n (omega (arith, l.slots_enough)))

  -- a sample packet, whatever stands behind the first n
  sample_at : (n i : ℕ) → n ≤ s.many → i < n → (rest : List ℕ) → packet_at (rate ++ samples n ++ rest) (sample_place i) ≡ sample i
  unfolding samples_of
  sample_at zero i h k rest = absurd (omega arith)
  sample_at (suc n) i h k rest =
      ap (λ (x : List ℕ). packet_at (x ++ rest) (sample_place i)) (sym (append_assoc rate (samples n) (sample n)))
      ∙ decide (eqb i n)
      (λ q.
      let g : i ≡ n = eqb-true i n q in
      let f : length (sample n) ≡ packet_bytes = length_sample _ (slots_in n) (slots_length n (omega arith)) in
      rw g (packet_at_lem (rate ++ samples n) (sample n) rest (sample_place n) (before_length n (omega arith)) f))
      (λ q.
      let g : i ≡ n → ⊥ = eqb-false i n q in
      ap (λ (x : List ℕ). packet_at x (sample_place i)) (append_assoc (rate ++ samples n) (sample n) rest)
      ∙ sample_at n i (omega arith) (omega arith) (sample n ++ rest))

  pub written_length : length (written e s) ≡ span_bytes s
  unfolding written
  written_length =
      length-append (rate ++ samples s.many) beacon ∙ omega (arith, before_length s.many (omega arith), beacon_length)

  pub rate_placed : packet_at (written e s) rate_place ≡ rate
  unfolding written
  rate_placed =
      ap (λ (x : List ℕ). packet_at x rate_place) (append_assoc rate (samples s.many) beacon)
      ∙ packet_at_lem [] rate (samples s.many ++ beacon) rate_place refl rate_length

  pub sample_placed : (i : ℕ) → i < s.many → packet_at (written e s) (sample_place i) ≡ sample i
  unfolding written
  sample_placed i h = sample_at s.many i (omega arith) h beacon

  pub beacon_placed : packet_at (written e s) (beacon_place s) ≡ beacon
  unfolding written
  beacon_placed =
      ap (λ (x : List ℕ). packet_at x (beacon_place s)) (sym (append-nil (rate ++ samples s.many ++ beacon)))
      ∙ packet_at_lem (rate ++ samples s.many) beacon [] (beacon_place s) (before_length s.many (omega arith)) beacon_length

  -- "packet p .. has slots 64p to 64p + 63 at 11-266"
  pub slots_sent : (i : ℕ) → i < s.many → take 256 (drop 11 (packet_at (written e s) (sample_place i))) ≡ words (slots_in i)
  unfolding sample_packet
  slots_sent i h =
      let w : length (words (slots_in i)) ≡ 256 = length_words (slots_in i) ∙ omega (arith, slots_length i h) in
      ap (λ (x : List ℕ). take 256 (drop 11 x)) (sample_placed i h)
      ∙ body_part (sample_application + (s.first + i)) (stamp_of e.frame e.time (s.first + i)) (words (slots_in i)) w
