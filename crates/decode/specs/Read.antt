-- What a reader finds in a packet, and the number with which it refuses one (document 01, "Packets" and "Causes and their numbers").
-- Assumes nothing.
use Rattle.std.specs.Prelude.{ℕ, ◌+◌, ◌*◌, ◌/◌, ◌%◌, Bool, true, false, cond, ◌&&◌, Option, Some, None, List, [], ◌∷◌, leb, eqb, length, take, get_or}
use Rattle.causes.specs.Causes.{no_header, packet_sum, body_fault}
use Rattle.causes.specs.Checks.{Check, number_by}
use Rattle.wire.specs.Bytes.{at16, at24, at32, total}
use Rattle.wire.specs.Pieces.{table, each}
use Rattle.settings.specs.declared.Settings.{Settings}
use Rattle.settings.specs.Settings.{settings_by}
use Rattle.sample_record.specs.Record.{record_good}
use Rattle.rate_code.specs.Editions.{least_by, valid_by}
use Rattle.packet.specs.Layout.{application_at, sequence_at, length_at, time_at, zero_at, body_at, sum_at, packet_bytes}
use Rattle.packet.specs.Layout.{frame_at, mark_at, last_at}
use Rattle.packet.specs.Layout.{secondary_flag, sequence_flags, sequence_counts, length_field}
use Rattle.packet.specs.Layout.{code_bytes, record_bytes, rate_count, record_count, beacon_rate_count, beacon_end, beacon_unused}
use Rattle.packet.specs.Layout.{gap_at, hvstep_at, flags_at, limhi_at, table_sum_at, junk_flag}
use Rattle.packet.specs.Packet.{rate_application, sample_application, beacon_application, application_of_sample}
use Rattle.decode.specs.Limits.{last_sample, largest_limhi, last_mark}
use Rattle.decode.specs.declared.kind.Kind.{Kind}
use Rattle.decode.specs.declared.kind.Kind.TheVariants.{Rate, Sample, Beacon}

-- ---- the fields

abbrev pub application_of : List ℕ → ℕ
application_of xs = at16 xs application_at % secondary_flag

abbrev pub sequence_of : List ℕ → ℕ
sequence_of xs = at16 xs sequence_at % sequence_counts

abbrev pub time_of : List ℕ → ℕ
time_of xs = at32 xs time_at

abbrev pub frame_of : List ℕ → ℕ
frame_of xs = at16 xs frame_at

-- bytes 269 and 270
abbrev pub mark_of : List ℕ → ℕ
mark_of xs = get_or xs mark_at 0

abbrev pub last_of : List ℕ → ℕ
last_of xs = get_or xs last_at 0

-- "rate (application number 605), samples 606 to 616, beacon 624"
unfoldable pub kind_of : ℕ → Option Kind
kind_of a =
    cond (eqb a rate_application) (Some Rate)
    (cond (eqb a beacon_application) (Some Beacon)
    (cond (leb sample_application a && leb a (application_of_sample last_sample)) (Some Sample) None))

-- whether it is a kind at all
abbrev pub is_kind : Option Kind → Bool
is_kind (Some _) = true
is_kind None = false

-- code i, and record i, of those that the body begins with
abbrev pub code_at : List ℕ → ℕ → ℕ
code_at xs i = at16 xs (body_at + code_bytes * i)

abbrev pub record_at : List ℕ → ℕ → ℕ
record_at xs i = at32 xs (body_at + record_bytes * i)

-- the least count of code i, in the edition of the packet's mark
abbrev pub rate_at : List ℕ → ℕ → ℕ
rate_at xs i = least_by (mark_of xs) (code_at xs i)

-- those of the first n codes
unfoldable pub rates_of : ℕ → List ℕ → List ℕ
rates_of n xs = table n (λ i. rate_at xs i)

abbrev pub flag_byte : List ℕ → ℕ
flag_byte xs = get_or xs flags_at 0

-- "260 hvstep, 261 hv 128 + Eonly 64 + toferror 32 + junk 16, 262-263 LIMHI"
unfoldable pub settings_of : List ℕ → Settings
settings_of xs = settings_by (flag_byte xs) (at16 xs limhi_at) (get_or xs hvstep_at 0)

-- "264-266 sum of all table words modulo 2^24"
abbrev pub sum_of : List ℕ → ℕ
sum_of xs = at24 xs table_sum_at

-- ---- 11: "packet not 272 bytes, or no header above (any sequence count passes)"

-- "version 0, type 0, secondary flag 1, sequence flags 3, .. length 265; then time (4 bytes) and a zero"
unfoldable pub fields_good : List ℕ → Bool
fields_good xs =
    eqb (at16 xs application_at / secondary_flag) 1
    && eqb (at16 xs sequence_at / sequence_counts) sequence_flags
    && eqb (at16 xs length_at) length_field
    && eqb (get_or xs zero_at 0) 0

-- of 272 bytes with the number of a kind
unfoldable pub header_good : List ℕ → Bool
header_good xs = eqb (length xs) packet_bytes && fields_good xs && is_kind (kind_of (application_of xs))

-- ---- 12: "packet sum wrong"

-- "Byte 271 is the sum of bytes 0 to 270 modulo 256"
unfoldable pub sum_good : List ℕ → Bool
sum_good xs = eqb (get_or xs sum_at 0) (total (take sum_at xs) % 256)

-- ---- 13: "packet body with a fault"

-- no "code with s ≥ 1 and quotient below 2,048 or s above 12" among the first n, "those from D000 hex on being wrong in the
-- second" edition (document 02, Point 5: "13 judges codes by that byte")
unfoldable pub codes_good : ℕ → List ℕ → Bool
codes_good n xs = each n (λ i. valid_by (mark_of xs) (code_at xs i))

-- no "non-zero byte .. that has no use above" among the n bytes from `at` on
unfoldable pub zeros_good : ℕ → ℕ → List ℕ → Bool
zeros_good at n xs = each n (λ i. eqb (get_or xs (at + i) 0) 0)

-- no "non-zero record with box outside 6 to 116" among the first n
unfoldable pub records_good : ℕ → List ℕ → Bool
records_good n xs = each n (λ i. record_good (record_at xs i))

-- byte 269 is the mark of an edition (document 02, Points 5 and 6); byte 270 has no use
abbrev pub end_good : List ℕ → Bool
end_good xs = leb (mark_of xs) last_mark && eqb (last_of xs) 0

-- byte 259 and the flags below junk's have no use in a rate packet; "LIMHI over 704" is a fault
unfoldable pub rate_good : List ℕ → Bool
rate_good xs =
    codes_good rate_count xs
    && eqb (get_or xs gap_at 0) 0
    && eqb (flag_byte xs % junk_flag) 0
    && leb (at16 xs limhi_at) largest_limhi
    && end_good xs

-- "application number other than 606 + p" is a fault; byte 270 has no use
unfoldable pub sample_good : List ℕ → Bool
sample_good xs =
    eqb (application_of xs) (application_of_sample (mark_of xs)) && eqb (last_of xs) 0 && records_good record_count xs

-- bytes 41 to 266 have no use
unfoldable pub beacon_good : List ℕ → Bool
beacon_good xs = codes_good beacon_rate_count xs && zeros_good beacon_end beacon_unused xs && end_good xs

unfoldable pub body_good : Option Kind → List ℕ → Bool
body_good (Some Rate) xs = rate_good xs
body_good (Some Sample) xs = sample_good xs
body_good (Some Beacon) xs = beacon_good xs
body_good None xs = false

-- ---- the number

-- the tests in their order, each with its number
abbrev pub read_checks : List ℕ → List Check
read_checks xs =
    (header_good xs, no_header) ∷ (sum_good xs, packet_sum) ∷ (body_good (kind_of (application_of xs)) xs, body_fault) ∷ []

-- "A call that is carried out answers 0; otherwise the lowest number that applies is given"
unfoldable pub read_number : List ℕ → ℕ
read_number xs = number_by (read_checks xs)
