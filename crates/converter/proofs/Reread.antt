-- A converted packet is read as the packet was, but for the mark. Assumes nothing.
use Rattle.std.proofs.Common.{Option, Some, ◌≡◌, sym, ap, ◌∙◌, inl, inr, true, ◌&&◌, List, ℕ, ◌+◌, ◌*◌, ◌/◌, ◌%◌, ◌≤◌, ◌<◌, arith}
use Rattle.std.proofs.Common.{leb, eqb, length, get_or, le-leb}
use Rattle.causes.specs.Causes.{carried_out}
use Rattle.wire.specs.Bytes.{at16, zeros}
use Rattle.wire.proofs.Lists.{and_left}
use Rattle.wire.proofs.Pieces.{each_same}
use Rattle.packet.specs.Layout.{beacon_rate_count}
use Rattle.settings.specs.declared.Settings.{Settings}
use Rattle.rate_code.specs.Editions.{converted_mark}
use Rattle.packet.specs.Layout.{application_at, sequence_at, length_at, time_at, zero_at, body_at, sum_at, packet_bytes, frame_at, mark_at, last_at}
use Rattle.settings.specs.Settings.{settings_by}
use Rattle.packet.specs.Layout.{secondary_flag, sequence_flags, sequence_counts, length_field, code_bytes, rate_count, beacon_end}
use Rattle.packet.specs.Layout.{beacon_unused, gap_at, hvstep_at, flags_at, limhi_at, table_sum_at, junk_flag}
use Rattle.decode.specs.declared.kind.Kind.{Kind}
use Rattle.decode.specs.declared.kind.Kind.TheVariants.{Rate, Beacon}
use Rattle.decode.specs.Limits.{largest_limhi}
use Rattle.decode.specs.Read.{application_of, sequence_of, time_of, frame_of, mark_of, last_of, kind_of, is_kind, rates_of, settings_of, sum_of}
use Rattle.decode.specs.Read.{fields_good, header_good, codes_good, zeros_good, end_good, rate_good, beacon_good}
use Rattle.decode.proofs.Reading.{rate_codes, rate_end, beacon_codes, beacon_end_lem}
use Rattle.ground.specs.Ground.{no_settings, accepted, contents}
use Rattle.converter.specs.Convert.{recoded, rates_exact}
use Rattle.converter.specs.ConvertTheorems.{with_mark}
use Rattle.converter.proofs.Recoded.{rates_fit, length_recoded, kept, mark_recoded, codes_recoded, rates_recoded}

-- ---- what every kind has

module _ (wanted n : ℕ) (xs : List ℕ) (lx : length xs ≡ packet_bytes) (fits : body_at + code_bytes * n ≤ frame_at) where
  abbrev ys : List ℕ
  ys = recoded wanted n xs

  -- a byte of the header
  front : (i : ℕ) → i < body_at → get_or ys i 0 ≡ get_or xs i 0
  front i h = kept wanted n xs lx fits i (omega (arith, h)) (λ e. omega (arith, h, e)) (inl h)

  -- a byte behind the codes
  rest : (i : ℕ) → body_at + code_bytes * n ≤ i → i < sum_at → (i ≡ mark_at → ⊥) → get_or ys i 0 ≡ get_or xs i 0
  rest i l h o = kept wanted n xs lx fits i h o (inr l)

  word : (i : ℕ) → i + 1 < body_at → at16 ys i ≡ at16 xs i
  word i h = let a = front i (omega (arith, h)) in let b = front (i + 1) h in λ k. 256 * a k + b k

  pub application_same : application_of ys ≡ application_of xs
  application_same = let w = word application_at (omega arith) in λ k. w k % secondary_flag

  sequence_same : sequence_of ys ≡ sequence_of xs
  sequence_same = let w = word sequence_at (omega arith) in λ k. w k % sequence_counts

  time_same : time_of ys ≡ time_of xs
  time_same =
      let a = front time_at (omega arith) in
      let b = front (time_at + 1) (omega arith) in
      let c = front (time_at + 2) (omega arith) in
      let d = front (time_at + 3) (omega arith) in
      λ k. 16777216 * a k + 65536 * b k + 256 * c k + d k

  frame_same : frame_of ys ≡ frame_of xs
  frame_same =
      let a = rest frame_at (omega (arith, fits)) (omega arith) (λ e. omega (arith, e)) in
      let b = rest (frame_at + 1) (omega (arith, fits)) (omega arith) (λ e. omega (arith, e)) in
      λ k. 256 * a k + b k

  last_same : last_of ys ≡ last_of xs
  last_same = rest last_at (omega (arith, fits)) (omega arith) (λ e. omega (arith, e))

  fields_same : fields_good ys ≡ fields_good xs
  unfolding fields_good
  fields_same =
      let a = word application_at (omega arith) in
      let q = word sequence_at (omega arith) in
      let l = word length_at (omega arith) in
      let z = front zero_at (omega arith) in
      λ k.
      eqb (a k / secondary_flag) 1 && eqb (q k / sequence_counts) sequence_flags && eqb (l k) length_field && eqb (z k) 0

  pub header_same : header_good ys ≡ header_good xs
  unfolding header_good
  header_same =
      let l = length_recoded wanted n xs lx fits ∙ sym lx in
      λ k. eqb (l k) packet_bytes && fields_same k && is_kind (kind_of (application_same k))

  -- the mark wanted is one that the reader takes
  end_same : wanted ≤ converted_mark → end_good xs ≡ true → end_good ys ≡ end_good xs
  end_same h g =
      let m : leb (mark_of ys) converted_mark ≡ leb (mark_of xs) converted_mark =
      le-leb (mark_of ys) converted_mark (omega (arith, mark_recoded wanted n xs lx fits, h)) ∙ sym (and_left _ _ g) in
      λ k. m k && eqb (last_same k) 0

  codes_same : codes_good n xs ≡ true → codes_good n ys ≡ codes_good n xs
  codes_same g = codes_recoded wanted n xs lx fits g ∙ sym g

  -- its header and frame are those of before, whatever else is read of it
  accepted_same : (k : Option Kind) (mark : ℕ) (rates : List ℕ) (s : Settings) (sum : ℕ) (beacon_rates : List ℕ) (p : ℕ)
      → accepted k ys wanted rates s sum beacon_rates p ≡ with_mark wanted (accepted k xs mark rates s sum beacon_rates p)
  unfolding accepted
  accepted_same k mark rates s sum beacon_rates p =
      λ i.
      record {
        number = carried_out;
        kind = k;
        application = application_same i;
        sequence = sequence_same i;
        time = time_same i;
        frame = frame_same i;
        mark = wanted;
        rates = rates;
        settings = s;
        sum = sum;
        beacon_rates = beacon_rates;
        p = p;
      }

-- ---- a rate packet

module _ (wanted : ℕ) (xs : List ℕ) (lx : length xs ≡ packet_bytes) where
  abbrev zs : List ℕ
  zs = recoded wanted rate_count xs

  -- a byte behind the codes
  behind : (i : ℕ) → gap_at ≤ i → i < frame_at → get_or zs i 0 ≡ get_or xs i 0
  behind i l h = rest wanted rate_count xs lx (rates_fit (Some Rate)) i (omega (arith, l)) (omega (arith, h)) (λ e. omega (arith, h, e))

  limhi_same : at16 zs limhi_at ≡ at16 xs limhi_at
  limhi_same =
      let a = behind limhi_at (omega arith) (omega arith) in let b = behind (limhi_at + 1) (omega arith) (omega arith) in λ k. 256 * a k + b k

  sum_same : sum_of zs ≡ sum_of xs
  sum_same =
      let a = behind table_sum_at (omega arith) (omega arith) in
      let b = behind (table_sum_at + 1) (omega arith) (omega arith) in
      let c = behind (table_sum_at + 2) (omega arith) (omega arith) in
      λ k. 65536 * a k + 256 * b k + c k

  settings_same : settings_of zs ≡ settings_of xs
  unfolding settings_of
  settings_same =
      let f = behind flags_at (omega arith) (omega arith) in
      let s = behind hvstep_at (omega arith) (omega arith) in
      λ k. settings_by (f k) (limhi_same k) (s k)

  pub rate_good_lem : wanted ≤ converted_mark → rate_good xs ≡ true → rate_good zs ≡ true
  unfolding rate_good
  rate_good_lem h g =
      let c = codes_same wanted rate_count xs lx (rates_fit (Some Rate)) (rate_codes xs g) in
      let gap = behind gap_at (omega arith) (omega arith) in
      let f = behind flags_at (omega arith) (omega arith) in
      let e = end_same wanted rate_count xs lx (rates_fit (Some Rate)) h (rate_end xs g) in
      (λ k. c k && eqb (gap k) 0 && eqb (f k % junk_flag) 0 && leb (limhi_same k) largest_limhi && e k) ∙ g

  pub rate_same : rates_exact wanted rate_count xs ≡ true → contents (Some Rate) zs ≡ with_mark wanted (contents (Some Rate) xs)
  unfolding contents
  rate_same e =
      let f = rates_fit (Some Rate) in
      (λ k. accepted (Some Rate) zs (mark_recoded wanted rate_count xs lx f k) (rates_recoded wanted rate_count xs lx f e k) (settings_same k) (sum_same k)
      (zeros beacon_rate_count) 0)
      ∙ accepted_same wanted rate_count xs lx f (Some Rate) (mark_of xs) (rates_of rate_count xs) (settings_of xs) (sum_of xs) (zeros beacon_rate_count) 0

-- ---- a beacon packet

module _ (wanted : ℕ) (xs : List ℕ) (lx : length xs ≡ packet_bytes) where
  abbrev bs : List ℕ
  bs = recoded wanted beacon_rate_count xs

  pub beacon_good_lem : wanted ≤ converted_mark → beacon_good xs ≡ true → beacon_good bs ≡ true
  unfolding beacon_good zeros_good
  beacon_good_lem h g =
      let c = codes_same wanted beacon_rate_count xs lx (rates_fit (Some Beacon)) (beacon_codes xs g) in
      let z = each_same beacon_unused (λ i. eqb (get_or bs (beacon_end + i) 0) 0) (λ i. eqb (get_or xs (beacon_end + i) 0) 0) (λ i l.
      ap (λ (x : ℕ). eqb x 0)
      (rest wanted beacon_rate_count xs lx (rates_fit (Some Beacon)) (beacon_end + i) (omega arith) (omega (arith, l)) (λ e. omega (arith, l, e)))) in
      let e = end_same wanted beacon_rate_count xs lx (rates_fit (Some Beacon)) h (beacon_end_lem xs g) in
      (λ k. c k && z k && e k) ∙ g

  pub beacon_same : rates_exact wanted beacon_rate_count xs ≡ true → contents (Some Beacon) bs ≡ with_mark wanted (contents (Some Beacon) xs)
  unfolding contents
  beacon_same e =
      let f = rates_fit (Some Beacon) in
      (λ k. accepted (Some Beacon) bs (mark_recoded wanted beacon_rate_count xs lx f k) (zeros rate_count) no_settings 0
      (rates_recoded wanted beacon_rate_count xs lx f e k) 0)
      ∙ accepted_same wanted beacon_rate_count xs lx f (Some Beacon) (mark_of xs) (zeros rate_count) no_settings 0 (rates_of beacon_rate_count xs) 0
