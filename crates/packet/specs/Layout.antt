-- Where each part of a packet stands, for its writer and its reader alike (document 01, "Packets"; document 02, Point 7). Assumes nothing.
use Rattle.std.specs.Prelude.{ℕ, ◌+◌, ◌-◌, ◌*◌}
use Rattle.boxes.specs.Boxes.{box_count, beacon_count, total_count}
-- the flags' values in byte 261
pub use Rattle.settings.specs.Settings.{hv_flag, eonly_flag, toferror_flag, junk_flag}

-- ---- every packet

-- "CCSDS primary header: .. then time (4 bytes) and a zero, eleven header bytes in all": the words with the application number and
-- the sequence count, the length field, the time, a zero
abbrev pub application_at : ℕ
application_at = 0

abbrev pub sequence_at : ℕ
sequence_at = application_at + 2

abbrev pub length_at : ℕ
length_at = sequence_at + 2

abbrev pub time_at : ℕ
time_at = length_at + 2

abbrev pub zero_at : ℕ
zero_at = time_at + 4

-- bytes 11 to 270 are those of the packet's kind, "Byte 271 is the sum"
abbrev pub body_at : ℕ
body_at = zero_at + 1

abbrev pub inner_bytes : ℕ
inner_bytes = 260

abbrev pub sum_at : ℕ
sum_at = body_at + inner_bytes

-- "Close writes 13 × 272 bytes"
abbrev pub packet_bytes : ℕ
packet_bytes = sum_at + 1

-- "secondary flag 1": its value in the first word, below which the application number stands
abbrev pub secondary_flag : ℕ
secondary_flag = 2048

-- "sequence flags 3, count frame modulo 16,384": the flags stand above the count
abbrev pub sequence_flags : ℕ
sequence_flags = 3

abbrev pub sequence_counts : ℕ
sequence_counts = 16384

-- "length 265"
abbrev pub length_field : ℕ
length_field = 265

-- ---- rate, sample and beacon packets

-- 256 bytes of their own; "Bytes 267-268 are the frame number"; byte 269, in a sample packet p; byte 270
abbrev pub body_bytes : ℕ
body_bytes = 256

abbrev pub frame_at : ℕ
frame_at = body_at + body_bytes

abbrev pub mark_at : ℕ
mark_at = frame_at + 2

abbrev pub last_at : ℕ
last_at = mark_at + 1

-- a rate code and a record in bytes
abbrev pub code_bytes : ℕ
code_bytes = 2

abbrev pub record_bytes : ℕ
record_bytes = 4

-- "Rate: 11-26 eight totals, 27-258 boxes 1 to 116"
abbrev pub rate_count : ℕ
rate_count = total_count + box_count

abbrev pub boxes_at : ℕ
boxes_at = body_at + code_bytes * total_count

-- a zero at 259; "260 hvstep, 261 [flags], 262-263 LIMHI, 264-266 sum of all table words"
abbrev pub gap_at : ℕ
gap_at = body_at + code_bytes * rate_count

abbrev pub hvstep_at : ℕ
hvstep_at = gap_at + 1

abbrev pub flags_at : ℕ
flags_at = hvstep_at + 1

abbrev pub limhi_at : ℕ
limhi_at = flags_at + 1

abbrev pub table_sum_at : ℕ
table_sum_at = limhi_at + 2

-- "packet p (0 to 10) has slots 64p to 64p + 63"
abbrev pub record_count : ℕ
record_count = 64

-- "Beacon: 11-34 twelve rates"; eligible, replaced and dropped events "at bytes 35-40" (document 02, Point 7); 41 to 266 have no use
abbrev pub beacon_rate_count : ℕ
beacon_rate_count = beacon_count + 3

abbrev pub sample_counts_at : ℕ
sample_counts_at = body_at + code_bytes * beacon_count

abbrev pub beacon_end : ℕ
beacon_end = body_at + code_bytes * beacon_rate_count

abbrev pub beacon_unused : ℕ
beacon_unused = frame_at - beacon_end
