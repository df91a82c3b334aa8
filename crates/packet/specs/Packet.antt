-- The packets as lists of bytes (document 01, "Packets"; document 02, Points 5 and 7). Assumes nothing.
use Rattle.std.specs.Prelude.{ℕ, ◌+◌, ◌*◌, ◌%◌, List, [], ◌∷◌, ◌++◌}
use Rattle.wire.specs.Bytes.{one, zeros, be16, be24, be32, words, total}
use Rattle.wire.specs.Pieces.{runs}
use Rattle.settings.specs.declared.Settings.{Settings}
pub use Rattle.settings.specs.Settings.{settings_flags}
use Rattle.packet.specs.declared.stamp.Stamp.{Stamp}
use Rattle.rate_code.specs.Editions.{code_by}
pub use Rattle.packet.specs.Layout.{packet_bytes}
use Rattle.packet.specs.Layout.{secondary_flag, sequence_flags, sequence_counts, length_field}
use Rattle.packet.specs.Layout.{beacon_unused}

-- "rate (application number 605), samples 606 to 616, beacon 624": sample packet p has 606 + p
abbrev pub rate_application : ℕ
rate_application = 605

abbrev pub sample_application : ℕ
sample_application = 606

abbrev pub beacon_application : ℕ
beacon_application = 624

abbrev pub application_of_sample : (p : ℕ) → ℕ
application_of_sample p = sample_application + p

-- ---- every packet

-- "CCSDS primary header: version 0, type 0, secondary flag 1, sequence flags 3, count frame modulo 16,384, length 265;
-- then time (4 bytes) and a zero, eleven header bytes in all"
unfoldable pub header : (application sequence time : ℕ) → List ℕ
header application sequence time =
    be16 (secondary_flag + application)
    ++ be16 (sequence_flags * sequence_counts + sequence % sequence_counts)
    ++ be16 length_field
    ++ be32 time
    ++ one 0

-- "Byte 271 is the sum of bytes 0 to 270 modulo 256"
unfoldable pub summed : List ℕ → List ℕ
summed bytes = bytes ++ one (total bytes % 256)

-- header and sum around the 260 bytes of any kind
unfoldable pub enveloped : (application sequence time : ℕ) → List ℕ → List ℕ
enveloped application sequence time inner = summed (header application sequence time ++ inner)

-- ---- rate, sample and beacon packets

-- what such a packet of this frame and time is stamped with: "count frame modulo 16,384"; byte 270 is zero
abbrev pub stamp_of : (frame time mark : ℕ) → Stamp
stamp_of frame time mark =
    record { sequence = frame % sequence_counts; time = time; frame = frame; mark = mark; last = 0 }

-- "Bytes 267-268 are the frame number", 269 "p" of a sample packet and the edition of a rate or beacon packet's codes
unfoldable pub trailer : Stamp → List ℕ
trailer stamp = be16 stamp.frame ++ one stamp.mark ++ one stamp.last

-- its 260 bytes are 256 of its own and those behind them
abbrev pub packet_of : (application : ℕ) → Stamp → (body : List ℕ) → List ℕ
packet_of application stamp body = enveloped application stamp.sequence stamp.time (body ++ trailer stamp)

-- the codes of the counts, two bytes each, in the mark's edition
unfoldable pub codes : (mark : ℕ) → List ℕ → List ℕ
codes mark counts = runs (λ n. be16 (code_by mark n)) counts

-- 259 is zero; "260 hvstep, 261 [flags], 262-263 LIMHI, 264-266 sum of all table words modulo 2^24"
unfoldable pub settings_bytes : Settings → (sum : ℕ) → List ℕ
settings_bytes s sum = one 0 ++ one s.hvstep ++ one (settings_flags s) ++ be16 s.limhi ++ be24 sum

-- "Rate: 11-26 eight totals, 27-258 boxes 1 to 116", then the settings and the table sum
abbrev pub rate_body : (mark : ℕ) (totals boxes : List ℕ) → Settings → (sum : ℕ) → List ℕ
rate_body mark totals boxes s sum = codes mark totals ++ codes mark boxes ++ settings_bytes s sum

unfoldable pub rate_packet : Stamp → (totals boxes : List ℕ) → Settings → (sum : ℕ) → List ℕ
rate_packet stamp totals boxes s sum = packet_of rate_application stamp (rate_body stamp.mark totals boxes s sum)

-- "Samples: packet p (0 to 10) has slots 64p to 64p + 63 at 11-266, p at 269"
unfoldable pub sample_packet : Stamp → (records : List ℕ) → List ℕ
sample_packet stamp records = packet_of (application_of_sample stamp.mark) stamp (words records)

-- "Beacon: 11-34 twelve rates"; "the beacon packet carries their codes at bytes 35-40, rates like the others": those of "eligible,
-- replaced and dropped events" (document 02, Point 7)
abbrev pub beacon_rates : (beacons : List ℕ) (eligible replaced dropped : ℕ) → List ℕ
beacon_rates beacons eligible replaced dropped = beacons ++ eligible ∷ replaced ∷ dropped ∷ []

-- 41-266 are zero
abbrev pub beacon_body : (mark : ℕ) (rates : List ℕ) → List ℕ
beacon_body mark rates = codes mark rates ++ zeros beacon_unused

unfoldable pub beacon_packet : Stamp → (rates : List ℕ) → List ℕ
beacon_packet stamp rates = packet_of beacon_application stamp (beacon_body stamp.mark rates)
