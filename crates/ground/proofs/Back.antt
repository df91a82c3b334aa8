-- Reading a written packet gives back its stamp and what its kind was written from; the archive reads as before. Assumes nothing.
use Rattle.std.specs.Prelude.{Option, Some, ◌≡◌, List, ◌++◌, ℕ, ◌<◌, length}
use Rattle.std.proofs.Common.{sym, ap, ◌∙◌, arith}
use Rattle.causes.specs.Causes.{carried_out}
use Rattle.wire.specs.Bytes.{words, zeros}
use Rattle.packet.specs.Layout.{beacon_rate_count}
use Rattle.settings.specs.declared.Settings.{Settings}
use Rattle.decode.specs.declared.kind.Kind.{Kind}
use Rattle.decode.specs.declared.kind.Kind.TheVariants.{Rate, Sample, Beacon}
use Rattle.wire.specs.Pieces.{table, each}
use Rattle.rate_code.specs.Editions.{least_by, valid_by}
use Rattle.packet.specs.declared.stamp.Stamp.{Stamp}
use Rattle.packet.specs.Layout.{secondary_flag, sequence_counts, inner_bytes, body_bytes, rate_count}
use Rattle.packet.specs.Packet.{rate_application, application_of_sample, beacon_application, packet_of, rate_body, beacon_body}
use Rattle.packet.specs.Packet.{trailer, codes, rate_packet, sample_packet, beacon_packet}
use Rattle.decode.specs.Limits.{last_mark}
use Rattle.decode.specs.Ranges.{StampFits}
use Rattle.packet.proofs.Written.{length_inner}
use Rattle.decode.specs.Read.{code_at, rates_of, codes_good}
use Rattle.decode.proofs.Back as fields
use Rattle.decode.proofs.Accepted as kinds
use Rattle.ground.specs.Ground.{no_settings, accepted, contents, read_of}
use Rattle.ground.specs.Theorems.{least_counts, stamp_read, RateBack, SampleBack, BeaconBack}
use Rattle.ground.specs.Theorems.{ArchiveRateBack, ArchiveBeaconBack, ArchiveCodes}
use Rattle.ground.proofs.Answers.{read_accepted, the_records}

-- of a packet of any kind, its stamp
accepted_back : (a : ℕ) (st : Stamp) (body : List ℕ) → length body ≡ body_bytes → a < secondary_flag → st.sequence < sequence_counts
    → (k : Option Kind) (mark : ℕ) (rates : List ℕ) (s : Settings) (sum : ℕ) (beacon_rates : List ℕ) (p : ℕ)
    → accepted k (packet_of a st body) mark rates s sum beacon_rates p ≡ stamp_read k a st mark rates s sum beacon_rates p
unfolding accepted
accepted_back a st body lb ha hq k mark rates s sum beacon_rates p =
    let l : length (body ++ trailer st) ≡ inner_bytes = length_inner st body lb in
    λ i. record {
      number = carried_out;
      kind = k;
      application = kinds.application_back a st body lb ha i;
      sequence = fields.sequence_back a st.sequence st.time (body ++ trailer st) l hq i;
      time = fields.time_back a st.sequence st.time (body ++ trailer st) l i;
      frame = fields.frame_back a st body lb i;
      mark = mark;
      rates = rates;
      settings = s;
      sum = sum;
      beacon_rates = beacon_rates;
      p = p;
    }

pub rate_back : RateBack
unfolding contents rate_packet
rate_back st totals boxes s sum h v =
    let B : List ℕ = rate_body st.mark totals boxes s sum in
    let P : List ℕ = packet_of rate_application st B in
    let l = kinds.rate_length st h totals boxes s sum v in
    let z = kinds.rate_number st h totals boxes s sum v in
    let rates = (kinds.rate_codes st h totals boxes s sum v).1 in
    let settings = kinds.settings_back st h totals boxes s sum v in
    let table-sum = kinds.table_sum_back st h totals boxes s sum v in
    let k = kinds.kind_back rate_application st B l (omega arith) (Some Rate) kinds.rate_kind in (
      read_accepted P (Some Rate) z k
          ∙ (λ i. accepted (Some Rate) P (fields.mark_back rate_application st B l i) (rates i) (settings i) (table-sum i) (zeros beacon_rate_count) 0)
          ∙ accepted_back rate_application st B l (omega arith) h.sequence_fits (Some Rate) st.mark _ s sum (zeros beacon_rate_count) 0,
      the_records P (Some Rate) z k,
    )

pub sample_back : SampleBack
unfolding contents sample_packet
sample_back st records h v =
    let a : ℕ = application_of_sample st.mark in
    let B : List ℕ = words records in
    let P : List ℕ = packet_of a st B in
    let l = kinds.sample_length st h records v in
    let ha = kinds.application_fits st h records v in
    let z = kinds.sample_number st h records v in
    let k = kinds.kind_back a st B l ha (Some Sample) (kinds.sample_kind st.mark h.mark_fits) in (
      read_accepted P (Some Sample) z k
          ∙ ap (accepted (Some Sample) P 0 (zeros rate_count) no_settings 0 (zeros beacon_rate_count)) (fields.mark_back a st B l)
          ∙ accepted_back a st B l ha h.sequence_fits (Some Sample) 0 (zeros rate_count) no_settings 0 (zeros beacon_rate_count) st.mark,
      the_records P (Some Sample) z k ∙ fields.body_part a st B l,
    )

pub beacon_back : BeaconBack
unfolding contents beacon_packet
beacon_back st rates h v =
    let B : List ℕ = beacon_body st.mark rates in
    let P : List ℕ = packet_of beacon_application st B in
    let l = kinds.beacon_length st h rates v in
    let z = kinds.beacon_number st h rates v in
    let least = (kinds.beacon_codes st h rates v).1 in
    let k = kinds.kind_back beacon_application st B l (omega arith) (Some Beacon) kinds.beacon_kind in (
      read_accepted P (Some Beacon) z k
          ∙ (λ i. accepted (Some Beacon) P (fields.mark_back beacon_application st B l i) (zeros rate_count) no_settings 0 (least i) 0)
          ∙ accepted_back beacon_application st B l (omega arith) h.sequence_fits (Some Beacon) st.mark (zeros rate_count) no_settings 0 _ 0,
      the_records P (Some Beacon) z k,
    )

-- a stamp without a mark fits the stamps of both editions
unmarked_fits : (st : Stamp) → StampFits 0 st → StampFits last_mark st
unmarked_fits st h = record {
  sequence_fits = h.sequence_fits;
  time_fits = h.time_fits;
  frame_fits = h.frame_fits;
  mark_fits = omega (arith, h.mark_fits);
  last_is = h.last_is;
}

pub archive_rate_back : ArchiveRateBack
unfolding rate_packet codes
archive_rate_back st totals boxes s sum h v =
    let e : st.mark ≡ 0 = omega (arith, h.mark_fits) in
    ap (λ (m : ℕ). read_of (packet_of rate_application st (rate_body m totals boxes s sum))) (sym e)
    ∙ (rate_back st totals boxes s sum (unmarked_fits st h) v).0
    ∙ ap (λ (m : ℕ). stamp_read (Some Rate) rate_application st m (least_counts m (totals ++ boxes)) s sum (zeros beacon_rate_count) 0) e

pub archive_beacon_back : ArchiveBeaconBack
unfolding beacon_packet codes
archive_beacon_back st rates h v =
    let e : st.mark ≡ 0 = omega (arith, h.mark_fits) in
    ap (λ (m : ℕ). read_of (packet_of beacon_application st (beacon_body m rates))) (sym e)
    ∙ (beacon_back st rates (unmarked_fits st h) v).0
    ∙ ap (λ (m : ℕ). stamp_read (Some Beacon) beacon_application st m (zeros rate_count) no_settings 0 (least_counts m rates) 0) e

pub archive_codes : ArchiveCodes
unfolding codes_good rates_of
archive_codes n xs h = (λ k. each n (λ i. valid_by (h k) (code_at xs i)), λ k. table n (λ i. least_by (h k) (code_at xs i)))
