-- A packet with one byte off is refused for its header or its sum, and hands back no records. Assumes nothing.
use Rattle.std.specs.Prelude.{◌≡◌, false, List, ◌++◌, ℕ, ◌<◌, length}
use Rattle.std.proofs.Common.{sym, ap, ◌∙◌, ⊎_elim, arith}
use Rattle.std.proofs.Math.Logic.{⊎_map}
use Rattle.causes.specs.Causes.{no_header, packet_sum}
use Rattle.wire.specs.Bytes.{words, zeros}
use Rattle.wire.specs.Lists.{EachBelow}
use Rattle.wire.proofs.Lists.{each_append, each_zeros}
use Rattle.packet.specs.declared.stamp.Stamp.{Stamp}
use Rattle.packet.specs.Layout.{secondary_flag, body_bytes, beacon_unused}
use Rattle.packet.specs.Packet.{rate_application, application_of_sample, beacon_application, trailer, packet_of}
use Rattle.packet.specs.Packet.{codes, settings_bytes, rate_body, beacon_body, rate_packet, sample_packet, beacon_packet}
use Rattle.decode.specs.Read.{sum_good, read_number}
use Rattle.decode.specs.Damage.{OneByteOff}
use Rattle.decode.specs.Limits.{last_sample, last_mark}
use Rattle.decode.specs.Ranges.{StampFits}
use Rattle.packet.proofs.Written.{length_inner, length_packet, length_rate_body, length_sample_body, length_beacon_body}
use Rattle.decode.proofs.Back.{sum_back}
use Rattle.decode.proofs.Damage.{sum_wrong, wrong_number, bytes_codes, bytes_words, bytes_settings, bytes_packet}
use Rattle.ground.specs.Ground.{refused, read_of}
use Rattle.ground.specs.Theorems.{Refused, DamageRefused, RateDamageRefused, SampleDamageRefused, BeaconDamageRefused}
use Rattle.ground.proofs.Answers.{read_refused, no_records}

-- a wrong sum
refused_as_lem : (ys : List ℕ) (n : ℕ) → (n ≡ 0 → ⊥) → read_number ys ≡ n → read_of ys ≡ refused n
refused_as_lem ys n ne e = read_refused ys (λ z. ne (sym e ∙ z)) ∙ ap refused e

wrong_refused : (ys : List ℕ) → sum_good ys ≡ false → Refused ys
wrong_refused ys e =
    let w = wrong_number ys e in (
      ⊎_map (refused_as_lem ys no_header (λ q. omega arith)) (refused_as_lem ys packet_sum (λ q. omega arith)) w,
      no_records ys (λ z. ⊎_elim (λ (q : read_number ys ≡ no_header). omega arith) (λ (q : read_number ys ≡ packet_sum). omega arith) w),
    )

pub damage_refused : DamageRefused
damage_refused xs ys l b e d = wrong_refused ys (sum_wrong xs l b e ys d)

-- of a packet of any kind, by its body
packet_damage : (a marks : ℕ) (st : Stamp) (body ys : List ℕ) → a < secondary_flag → marks < 256 → length body ≡ body_bytes
    → StampFits marks st → EachBelow 256 body → OneByteOff (packet_of a st body) ys → Refused ys
packet_damage a marks st body ys ha hm l h b d =
    damage_refused (packet_of a st body) ys (length_packet a st body l) (bytes_packet a marks st body ha hm h b)
    (sum_back a st.sequence st.time (body ++ trailer st) (length_inner st body l)) d

pub rate_damage_refused : RateDamageRefused
unfolding rate_packet
rate_damage_refused st totals boxes s sum ys h v d =
    let S = bytes_settings s sum (omega (arith, v.limhi_fits)) v.hvstep_fits v.sum_fits in
    let C = each_append 256 (codes st.mark totals) (codes st.mark boxes) (bytes_codes st.mark totals v.totals_fit)
    (bytes_codes st.mark boxes v.boxes_fit) in
    packet_damage rate_application last_mark st (rate_body st.mark totals boxes s sum) ys (omega arith) (omega arith)
    (length_rate_body st.mark totals boxes s sum v.totals_are v.boxes_are) h
    (each_append 256 (codes st.mark totals ++ codes st.mark boxes) (settings_bytes s sum) C S) d

pub sample_damage_refused : SampleDamageRefused
unfolding sample_packet
sample_damage_refused st records ys h v d =
    packet_damage (application_of_sample st.mark) last_sample st (words records) ys (omega (arith, h.mark_fits)) (omega arith)
    (length_sample_body records v.records_are) h (bytes_words records v.records_fit) d

pub beacon_damage_refused : BeaconDamageRefused
unfolding beacon_packet
beacon_damage_refused st rates ys h v d =
    let Z = each_zeros 256 beacon_unused (omega arith) in
    let B = each_append 256 (codes st.mark rates) (zeros beacon_unused) (bytes_codes st.mark rates v.rates_fit) Z in
    packet_damage beacon_application last_mark st (beacon_body st.mark rates) ys (omega arith) (omega arith)
    (length_beacon_body st.mark rates v.rates_are) h B d
