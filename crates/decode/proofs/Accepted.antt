-- A reader accepts every packet that a writer writes, and finds in it what went in, by kind. Assumes nothing.
use Rattle.std.specs.Prelude.{Option, Some, ◌≡◌, refl, true, List, ◌++◌, map, ℕ, ◌+◌, ◌*◌, ◌%◌, ◌≤◌, ◌<◌, length, get_or}
use Rattle.std.proofs.Common.{sym, ap, ◌∙◌, arith, length-append, eq-eqb, ne_eqb, le-leb}
use Rattle.std.proofs.Math.ListN.{length-map, get_or-replicate}
use Rattle.wire.specs.Bits.{bit_of}
use Rattle.wire.specs.Bytes.{at16, words, zeros}
use Rattle.wire.specs.Lists.{EachBelow}
use Rattle.wire.proofs.BitLaws.{bit_small}
use Rattle.wire.proofs.Bytes.{value16, value24}
use Rattle.wire.proofs.Lists.{all_get, map_at, each_append}
use Rattle.wire.proofs.Pieces.{table_is, each_all}
use Rattle.settings.specs.declared.Settings.{Settings}
use Rattle.settings.specs.Settings.{settings_by}
use Rattle.settings.proofs.FlagLaws.{flags_back as own_flags}
use Rattle.sample_record.specs.Record.{record_good}
use Rattle.packet.specs.declared.stamp.Stamp.{Stamp}
use Rattle.rate_code.specs.Rate.{count_limit}
use Rattle.rate_code.specs.Editions.{code_by, least_by, valid_by}
use Rattle.packet.specs.Layout.{body_at, inner_bytes, secondary_flag, body_bytes, code_bytes}
use Rattle.packet.specs.Layout.{rate_count, record_count, beacon_rate_count, beacon_end, beacon_unused}
use Rattle.packet.specs.Layout.{gap_at, hvstep_at, limhi_at, junk_flag}
use Rattle.packet.specs.Packet.{rate_application, sample_application, beacon_application, application_of_sample, stamp_of, trailer, packet_of}
use Rattle.packet.specs.Packet.{codes, settings_flags, settings_bytes, rate_body, beacon_body}
use Rattle.decode.specs.declared.kind.Kind.{Kind}
use Rattle.decode.specs.declared.kind.Kind.TheVariants.{Rate, Sample, Beacon}
use Rattle.decode.specs.Read.{application_of, kind_of, is_kind, flag_byte, rates_of, settings_of, sum_of, mark_of, last_of, end_good}
use Rattle.decode.specs.Read.{codes_good, zeros_good, records_good, rate_good, sample_good, beacon_good, body_good, read_number}
use Rattle.decode.specs.Limits.{last_sample, largest_limhi, last_mark}
use Rattle.decode.specs.Ranges.{StampFits, RateValues, SampleValues, BeaconValues}
use Rattle.rate_code.proofs.EditionLaws.{by_valid}
use Rattle.packet.proofs.Written.{length_codes, codes_append, length_inner}
use Rattle.packet.proofs.Written.{length_rate_body, length_sample_body, length_beacon_body}
use Rattle.decode.proofs.Reading.{accepted_is}
use Rattle.decode.proofs.Back as back
use Rattle.decode.proofs.Back.{both, behind}

-- ---- the application numbers' kinds

pub rate_kind : kind_of rate_application ≡ Some Rate
unfolding kind_of
rate_kind = refl

pub beacon_kind : kind_of beacon_application ≡ Some Beacon
unfolding kind_of
beacon_kind = refl

pub sample_kind : (p : ℕ) → p ≤ last_sample → kind_of (application_of_sample p) ≡ Some Sample
unfolding kind_of
sample_kind p h =
    let n : ℕ = application_of_sample p in
    rw (
      ne_eqb n rate_application (λ e. omega arith),
      ne_eqb n beacon_application (λ e. omega arith),
      le-leb sample_application n (omega arith),
      le-leb n (application_of_sample last_sample) (omega arith),
    )

-- the stamp of a frame and a time fits
pub stamp_fits : (frame time mark marks : ℕ) → frame < 65536 → time < 4294967296 → mark ≤ marks → StampFits marks (stamp_of frame time mark)
stamp_fits frame time mark marks hf ht hm =
    record { sequence_fits = omega arith; time_fits = ht; frame_fits = hf; mark_fits = hm; last_is = refl }

-- ---- any kind: where the body has no fault the packet is accepted

module _ (a : ℕ) (st : Stamp) (body : List ℕ) (lb : length body ≡ body_bytes) (ha : a < secondary_flag) where
  abbrev P : List ℕ
  P = packet_of a st body

  inner : length (body ++ trailer st) ≡ inner_bytes
  inner = length_inner st body lb

  pub application_back : application_of P ≡ a
  application_back = back.application_back a _ _ _ inner ha

  pub kind_back : (k : Option Kind) → kind_of a ≡ k → kind_of (application_of P) ≡ k
  kind_back k e = ap kind_of application_back ∙ e

  number_back : (k : Option Kind) → kind_of a ≡ k → is_kind k ≡ true → body_good k P ≡ true → read_number P ≡ 0
  number_back k e i g =
      accepted_is P (back.header_back a _ _ _ inner ha (ap is_kind e ∙ i)) (back.sum_back a _ _ _ inner)
      (ap (λ (x : Option Kind). body_good x P) (kind_back k e) ∙ g)

  -- codes that counts have are without fault, and give the counts' least counts
  codes_back : (ns rest : List ℕ) → body ≡ codes st.mark ns ++ rest → EachBelow count_limit ns → (n : ℕ) → length ns ≡ n
      → (codes_good n P ≡ true) × (rates_of n P ≡ map (λ c. least_by st.mark (code_by st.mark c)) ns)
  unfolding codes_good rates_of
  codes_back ns rest e h n l =
      let m = back.mark_back a st body lb in
      let code = back.code_back a st body lb st.mark ns rest e in (
        each_all _ n (λ i q. (λ k. valid_by (m k) (code i (omega arith) k)) ∙ by_valid st.mark _ (h i)),
        table_is _ n _ (length-map ns (λ c. least_by st.mark (code_by st.mark c)) ∙ l) (λ i q.
            let j : i < length ns = omega arith in
            (λ k. least_by (m k) (code i j k)) ∙ sym (map_at (λ c. least_by st.mark (code_by st.mark c)) ns i j)),
      )

  last_zero : (marks : ℕ) → StampFits marks st → last_of P ≡ 0
  last_zero marks h = back.last_back a st body lb ∙ h.last_is

  end_back : StampFits last_mark st → end_good P ≡ true
  end_back h =
      both (le-leb (mark_of P) last_mark (omega (arith, back.mark_back a st body lb, h.mark_fits)))
      (eq-eqb _ _ (last_zero last_mark h))

-- ---- a rate packet

pub flags_le : (s : Settings) → (bit_of s.hv ≤ 1) × (bit_of s.eonly ≤ 1) × (bit_of s.toferror ≤ 1) × (bit_of s.junk ≤ 1)
flags_le s = (bit_small s.hv, bit_small s.eonly, bit_small s.toferror, bit_small s.junk)

module _ (st : Stamp) (fits : StampFits last_mark st) (totals boxes : List ℕ) (s : Settings) (sum : ℕ) (v : RateValues totals boxes s sum) where
  abbrev rate_body_lem : List ℕ
  rate_body_lem = rate_body st.mark totals boxes s sum

  abbrev rate_is : List ℕ
  rate_is = packet_of rate_application st rate_body_lem

  pub rate_length : length rate_body_lem ≡ body_bytes
  rate_length = length_rate_body st.mark totals boxes s sum v.totals_are v.boxes_are

  length_counts : length (totals ++ boxes) ≡ rate_count
  length_counts = length-append totals boxes ∙ omega (arith, v.totals_are, v.boxes_are)

  rate_split : rate_body_lem ≡ codes st.mark (totals ++ boxes) ++ settings_bytes s sum
  rate_split = ap (λ (l : List ℕ). l ++ settings_bytes s sum) (codes_append st.mark totals boxes)

  pub rate_codes : (codes_good rate_count rate_is ≡ true)
      × (rates_of rate_count rate_is ≡ map (λ c. least_by st.mark (code_by st.mark c)) (totals ++ boxes))
  rate_codes =
      codes_back rate_application st rate_body_lem rate_length (omega arith) (totals ++ boxes) (settings_bytes s sum) rate_split
      (each_append count_limit totals boxes v.totals_fit v.boxes_fit) rate_count length_counts

  settings_at : (j : ℕ) → j < 8 → get_or rate_is (body_at + (code_bytes * rate_count + j)) 0 ≡ get_or (settings_bytes s sum) j 0
  settings_at j h =
      back.body_at_lem rate_application st rate_body_lem rate_length (code_bytes * rate_count + j) (omega arith)
      ∙ ap (λ (b : List ℕ). get_or b (code_bytes * rate_count + j) 0) rate_split
      ∙ behind (codes st.mark (totals ++ boxes)) (settings_bytes s sum) (code_bytes * rate_count) j
      (length_codes st.mark (totals ++ boxes) ∙ omega (arith, length_counts))

  gap_back : get_or rate_is gap_at 0 ≡ 0
  unfolding settings_bytes
  gap_back = settings_at 0 (omega arith)

  hvstep_back : get_or rate_is hvstep_at 0 ≡ s.hvstep
  unfolding settings_bytes
  hvstep_back = settings_at 1 (omega arith)

  flags_back : flag_byte rate_is ≡ settings_flags s
  unfolding settings_bytes
  flags_back = settings_at 2 (omega arith)

  limhi_back : at16 rate_is limhi_at ≡ s.limhi
  unfolding settings_bytes
  limhi_back = (λ i. 256 * settings_at 3 (omega arith) i + settings_at 4 (omega arith) i) ∙ value16 s.limhi

  pub table_sum_back : sum_of rate_is ≡ sum
  unfolding settings_bytes
  table_sum_back =
      (λ i. 65536 * settings_at 5 (omega arith) i + 256 * settings_at 6 (omega arith) i + settings_at 7 (omega arith) i) ∙ value24 sum

  pub settings_back : settings_of rate_is ≡ s
  unfolding settings_of
  settings_back = (λ i. settings_by (flags_back i) (limhi_back i) (hvstep_back i)) ∙ own_flags s

  rate_good_back : rate_good rate_is ≡ true
  unfolding rate_good
  rate_good_back =
      both (both (both (both rate_codes.0
      (eq-eqb _ _ gap_back))
      (eq-eqb _ _ (ap (λ (n : ℕ). n % junk_flag) flags_back ∙ omega arith)))
      (le-leb (at16 rate_is limhi_at) largest_limhi (omega (arith, limhi_back, v.limhi_fits))))
      (end_back rate_application st rate_body_lem rate_length (omega arith) fits)

  pub rate_number : read_number rate_is ≡ 0
  unfolding body_good
  rate_number = number_back rate_application st rate_body_lem rate_length (omega arith) (Some Rate) rate_kind refl rate_good_back

-- ---- a sample packet

module _ (st : Stamp) (fits : StampFits last_sample st) (records : List ℕ) (v : SampleValues records) where
  abbrev number_is : ℕ
  number_is = application_of_sample st.mark

  abbrev samples_are : List ℕ
  samples_are = packet_of number_is st (words records)

  pub sample_length : length (words records) ≡ body_bytes
  sample_length = length_sample_body records v.records_are

  pub application_fits : number_is < secondary_flag
  application_fits = omega (arith, fits.mark_fits)

  records_back : records_good record_count samples_are ≡ true
  unfolding records_good
  records_back =
      each_all _ record_count (λ i h.
      let k : i < length records = omega (arith, v.records_are) in
      ap record_good (back.record_back number_is st (words records) sample_length records refl i k)
      ∙ all_get record_good records 0 i k v.records_good_lem)

  sample_good_back : sample_good samples_are ≡ true
  unfolding sample_good
  sample_good_back =
      let l = sample_length in
      let m = back.mark_back number_is st (words records) l in
      both (both
      (eq-eqb _ _ (application_back number_is st (words records) l application_fits ∙ ap application_of_sample (sym m)))
      (eq-eqb _ _ (last_zero number_is st (words records) l application_fits last_sample fits)))
      records_back

  pub sample_number : read_number samples_are ≡ 0
  unfolding body_good
  sample_number =
      let kind = sample_kind st.mark fits.mark_fits in
      number_back number_is st (words records) sample_length application_fits (Some Sample) kind refl sample_good_back

-- ---- a beacon packet

module _ (st : Stamp) (fits : StampFits last_mark st) (rates : List ℕ) (v : BeaconValues rates) where
  abbrev beacon_body_lem : List ℕ
  beacon_body_lem = beacon_body st.mark rates

  abbrev beacon_is : List ℕ
  beacon_is = packet_of beacon_application st beacon_body_lem

  pub beacon_length : length beacon_body_lem ≡ body_bytes
  beacon_length = length_beacon_body st.mark rates v.rates_are

  pub beacon_codes : (codes_good beacon_rate_count beacon_is ≡ true)
      × (rates_of beacon_rate_count beacon_is ≡ map (λ c. least_by st.mark (code_by st.mark c)) rates)
  beacon_codes =
      codes_back beacon_application st beacon_body_lem beacon_length (omega arith) rates (zeros beacon_unused) refl
      v.rates_fit beacon_rate_count v.rates_are

  unused_back : zeros_good beacon_end beacon_unused beacon_is ≡ true
  unfolding zeros_good
  unused_back =
      each_all _ beacon_unused (λ i h.
      let q : beacon_end + i ≡ body_at + (code_bytes * beacon_rate_count + i) = omega arith in
      eq-eqb _ _ (ap (λ (n : ℕ). get_or beacon_is n 0) q
      ∙ back.body_at_lem beacon_application st beacon_body_lem beacon_length (code_bytes * beacon_rate_count + i) (omega arith)
      ∙ behind (codes st.mark rates) (zeros beacon_unused) (code_bytes * beacon_rate_count) i
      (length_codes st.mark rates ∙ omega (arith, v.rates_are))
      ∙ get_or-replicate beacon_unused i 0 0 h))

  beacon_good_back : beacon_good beacon_is ≡ true
  unfolding beacon_good
  beacon_good_back =
      both (both beacon_codes.0 unused_back) (end_back beacon_application st beacon_body_lem beacon_length (omega arith) fits)

  pub beacon_number : read_number beacon_is ≡ 0
  unfolding body_good
  beacon_number = number_back beacon_application st beacon_body_lem beacon_length (omega arith) (Some Beacon) beacon_kind refl beacon_good_back
