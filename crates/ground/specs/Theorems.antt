-- What is proved of the packets and their reader together. `read_of` and `records_of` are what the reader's two calls answer,
-- `rate_packet`, `sample_packet` and `beacon_packet` what the three writers write, by their contracts. Assumes nothing.
use Rattle.std.specs.Prelude.{ℕ, ◌+◌, ◌*◌, ◌≤◌, ◌<◌, ◌≡◌, ◌⊎◌, true, ◌&&◌, Option, Some, List, [], ◌∷◌, ◌++◌, map, length}
use Rattle.causes.specs.Causes.{carried_out, no_header, packet_sum}
use Rattle.causes.specs.Checks.{Lowest}
use Rattle.wire.specs.Bytes.{at16, be16, words, zeros}
use Rattle.wire.specs.Lists.{EachBelow}
use Rattle.wire.specs.Pieces.{runs, table, each}
use Rattle.settings.specs.declared.Settings.{Settings}
use Rattle.decode.specs.declared.kind.Kind.{Kind}
use Rattle.decode.specs.declared.kind.Kind.TheVariants.{Rate, Sample, Beacon}
use Rattle.packet.specs.declared.stamp.Stamp.{Stamp}
use Rattle.rate_code.specs.Rate.{rate_code, least_count, code_valid}
use Rattle.rate_code.specs.Editions.{code_by, least_by, valid_by}
use Rattle.packet.specs.Layout.{packet_bytes, rate_count, beacon_rate_count, beacon_unused}
use Rattle.packet.specs.Packet.{rate_application, beacon_application, application_of_sample, packet_of, settings_bytes}
use Rattle.packet.specs.Packet.{rate_packet, sample_packet, beacon_packet}
use Rattle.decode.specs.Read.{application_of, mark_of, code_at, rates_of, codes_good, zeros_good, end_good, beacon_good, sum_good, read_checks}
use Rattle.decode.specs.Damage.{OneByteOff}
use Rattle.decode.specs.Limits.{last_sample, last_mark}
use Rattle.decode.specs.Ranges.{StampFits, RateValues, SampleValues, BeaconValues}
use Rattle.ground.specs.Ground.{Packet, no_settings, refused, read_of, records_of}

-- ---- reading back

-- each count as its code's least count, in the mark's edition
abbrev pub least_counts : (mark : ℕ) → List ℕ → List ℕ
least_counts mark counts = map (λ n. least_by mark (code_by mark n)) counts

-- every packet gives back its kind and application number and what it was stamped with, beside what its kind has
abbrev pub stamp_read : Option Kind → (application : ℕ) → Stamp → (mark : ℕ) (rates : List ℕ) → Settings → (sum : ℕ) → (beacon_rates : List ℕ) → (p : ℕ) → Packet
stamp_read kind application stamp mark rates s sum beacon_rates p =
    record {
      number = carried_out;
      kind = kind;
      application = application;
      sequence = stamp.sequence;
      time = stamp.time;
      frame = stamp.frame;
      mark = mark;
      rates = rates;
      settings = s;
      sum = sum;
      beacon_rates = beacon_rates;
      p = p;
    }

-- a rate packet of either edition gives back its mark, settings and table sum, and the counts as least counts: one of the archive,
-- whose mark is 0, those of the first edition
abbrev pub rate_read : Stamp → (totals boxes : List ℕ) → Settings → (sum : ℕ) → Packet
rate_read stamp totals boxes s sum =
    stamp_read (Some Rate) rate_application stamp stamp.mark (least_counts stamp.mark (totals ++ boxes)) s sum (zeros beacon_rate_count) 0

abbrev pub RateBack : Type 0
RateBack =
    (stamp : Stamp) (totals boxes : List ℕ) (s : Settings) (sum : ℕ) → StampFits last_mark stamp → RateValues totals boxes s sum
    → (read_of (rate_packet stamp totals boxes s sum) ≡ rate_read stamp totals boxes s sum)
    × (records_of (rate_packet stamp totals boxes s sum) ≡ [])

-- a sample packet gives back p, and exactly the record bytes
abbrev pub sample_read : Stamp → Packet
sample_read stamp =
    stamp_read (Some Sample) (application_of_sample stamp.mark) stamp 0 (zeros rate_count) no_settings 0 (zeros beacon_rate_count) stamp.mark

abbrev pub SampleBack : Type 0
SampleBack =
    (stamp : Stamp) (records : List ℕ) → StampFits last_sample stamp → SampleValues records
    → (read_of (sample_packet stamp records) ≡ sample_read stamp)
    × (records_of (sample_packet stamp records) ≡ words records)

-- a beacon packet of either edition gives back its mark, and its fifteen rates as least counts
abbrev pub beacon_read : Stamp → (rates : List ℕ) → Packet
beacon_read stamp rates =
    stamp_read (Some Beacon) beacon_application stamp stamp.mark (zeros rate_count) no_settings 0 (least_counts stamp.mark rates) 0

abbrev pub BeaconBack : Type 0
BeaconBack =
    (stamp : Stamp) (rates : List ℕ) → StampFits last_mark stamp → BeaconValues rates
    → (read_of (beacon_packet stamp rates) ≡ beacon_read stamp rates)
    × (records_of (beacon_packet stamp rates) ≡ [])

-- ---- the archive

-- what a packet of the archive was written from: codes of the first edition, and 0 in byte 269
abbrev pub first_codes : List ℕ → List ℕ
first_codes counts = runs (λ n. be16 (rate_code n)) counts

abbrev pub first_counts : List ℕ → List ℕ
first_counts counts = map (λ n. least_count (rate_code n)) counts

-- it gives back the least counts of the first edition
abbrev pub ArchiveRateBack : Type 0
ArchiveRateBack =
    (stamp : Stamp) (totals boxes : List ℕ) (s : Settings) (sum : ℕ) → StampFits 0 stamp → RateValues totals boxes s sum
    → read_of (packet_of rate_application stamp (first_codes totals ++ first_codes boxes ++ settings_bytes s sum))
    ≡ stamp_read (Some Rate) rate_application stamp 0 (first_counts (totals ++ boxes)) s sum (zeros beacon_rate_count) 0

abbrev pub ArchiveBeaconBack : Type 0
ArchiveBeaconBack =
    (stamp : Stamp) (rates : List ℕ) → StampFits 0 stamp → BeaconValues rates
    → read_of (packet_of beacon_application stamp (first_codes rates ++ zeros beacon_unused))
    ≡ stamp_read (Some Beacon) beacon_application stamp 0 (zeros rate_count) no_settings 0 (first_counts rates) 0

-- of any bytes with mark 0, whatever else they are, codes are judged and read by the first edition, as they were before the second
abbrev pub ArchiveCodes : Type 0
ArchiveCodes =
    (n : ℕ) (xs : List ℕ) → mark_of xs ≡ 0
    → (codes_good n xs ≡ each n (λ i. code_valid (code_at xs i))) × (rates_of n xs ≡ table n (λ i. least_count (code_at xs i)))

-- of any bytes with zeros "at bytes 35-40" (document 02, Point 7), as beacon packets of the archive have them: judged as before these had
-- a use, by twelve codes and zeros from 35 on, and read as the twelve rates and three of 0
abbrev pub ArchiveBeacons : Type 0
ArchiveBeacons =
    (xs : List ℕ) → zeros_good 35 6 xs ≡ true
    → (beacon_good xs ≡ (codes_good 12 xs && zeros_good 35 232 xs && end_good xs)) × (rates_of 15 xs ≡ rates_of 12 xs ++ 0 ∷ 0 ∷ 0 ∷ [])

-- ---- one damaged byte

-- the reader refuses ys, with 11 or with 12, and hands back no records
abbrev pub Refused : List ℕ → Type 0
Refused ys = ((read_of ys ≡ refused no_header) ⊎ (read_of ys ≡ refused packet_sum)) × (records_of ys ≡ [])

-- of any 272 bytes with a right sum, whatever they are, one byte off is refused
abbrev pub DamageRefused : Type 0
DamageRefused =
    (xs ys : List ℕ) → length xs ≡ packet_bytes → EachBelow 256 xs → sum_good xs ≡ true → OneByteOff xs ys → Refused ys

-- so of every packet that is written
abbrev pub RateDamageRefused : Type 0
RateDamageRefused =
    (stamp : Stamp) (totals boxes : List ℕ) (s : Settings) (sum : ℕ) (ys : List ℕ) → StampFits last_mark stamp → RateValues totals boxes s sum
    → OneByteOff (rate_packet stamp totals boxes s sum) ys → Refused ys

abbrev pub SampleDamageRefused : Type 0
SampleDamageRefused =
    (stamp : Stamp) (records ys : List ℕ) → StampFits last_sample stamp → SampleValues records
    → OneByteOff (sample_packet stamp records) ys → Refused ys

abbrev pub BeaconDamageRefused : Type 0
BeaconDamageRefused =
    (stamp : Stamp) (rates ys : List ℕ) → StampFits last_mark stamp → BeaconValues rates
    → OneByteOff (beacon_packet stamp rates) ys → Refused ys

-- ---- the number

-- "otherwise the lowest number that applies is given"
abbrev pub LowestRead : Type 0
LowestRead = (xs : List ℕ) → Lowest (read_checks xs) (read_of xs).number

-- what is taken is a rate, sample or beacon packet, and a mark that is returned is 0, 1 or 2
abbrev pub TakenAs : Type 0
TakenAs =
    (xs : List ℕ) → (read_of xs).number ≡ carried_out
    → (((read_of xs).kind ≡ Some Rate) ⊎ ((read_of xs).kind ≡ Some Sample) ⊎ ((read_of xs).kind ≡ Some Beacon)) × ((read_of xs).mark ≤ 2)

-- every code of a rate or beacon packet that is taken is one of the edition that its mark stands for: eight totals and 116 boxes; twelve
-- beacons and three counts of samples (document 02, Point 7: "rates like the others under every mark")
abbrev pub TakenCodes : Type 0
TakenCodes =
    (xs : List ℕ) (i : ℕ) → (read_of xs).number ≡ carried_out
    → ((read_of xs).kind ≡ Some Rate → i < 124 → valid_by (read_of xs).mark (at16 xs (11 + 2 * i)) ≡ true)
    × ((read_of xs).kind ≡ Some Beacon → i < 15 → valid_by (read_of xs).mark (at16 xs (11 + 2 * i)) ≡ true)

-- 11 for any bytes with another number than "rate (application number 605), samples 606 to 616, beacon 624"
abbrev pub OtherNumber : Type 0
OtherNumber =
    (xs : List ℕ) → (application_of xs ≡ 605 → ⊥) → (application_of xs ≡ 624 → ⊥) → (606 ≤ application_of xs → application_of xs ≤ 616 → ⊥)
    → (read_of xs ≡ refused no_header) × (records_of xs ≡ [])

-- so for a listing packet's: "another application number gets 11, as 594 does from the reader" (document 02, Point 1)
abbrev pub ListingNotRead : Type 0
ListingNotRead = (xs : List ℕ) → application_of xs ≡ 594 → (read_of xs ≡ refused no_header) × (records_of xs ≡ [])
