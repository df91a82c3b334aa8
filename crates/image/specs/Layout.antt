-- Where each part of a state's image stands. Assumes nothing.
use Rattle.std.specs.Prelude.{ℕ, ◌+◌, ◌*◌}
-- the flags' values
pub use Rattle.settings.specs.Settings.{hv_flag, eonly_flag, toferror_flag, junk_flag}

-- the frame in two bytes, then the interval, four bytes a number: taken, 116 boxes, 12 beacons, used and replaced slots, readings and
-- eight totals
abbrev pub frame_at : ℕ
frame_at = 0

abbrev pub taken_at : ℕ
taken_at = frame_at + 2

abbrev pub boxes_at : ℕ
boxes_at = taken_at + 4

abbrev pub beacons_at : ℕ
beacons_at = boxes_at + 4 * 116

abbrev pub used_at : ℕ
used_at = beacons_at + 4 * 12

abbrev pub replaced_at : ℕ
replaced_at = used_at + 4

abbrev pub readings_at : ℕ
readings_at = replaced_at + 4

abbrev pub totals_at : ℕ
totals_at = readings_at + 4

-- the settings: LIMHI in two bytes, a byte of flags, hvstep
abbrev pub limhi_at : ℕ
limhi_at = totals_at + 4 * 8

abbrev pub flags_at : ℕ
flags_at = limhi_at + 2

abbrev pub hvstep_at : ℕ
hvstep_at = flags_at + 1

-- accepted and waiting commands, how many, in four bytes each; then 32 entries of six bytes
abbrev pub accepted_at : ℕ
accepted_at = hvstep_at + 1

abbrev pub waiters_at : ℕ
waiters_at = accepted_at + 4

abbrev pub entries_at : ℕ
entries_at = waiters_at + 4

abbrev pub entry_bytes : ℕ
entry_bytes = 6

-- the staging addresses, four bytes each
abbrev pub next_at : ℕ
next_at = entries_at + entry_bytes * 32

abbrev pub reach_at : ℕ
reach_at = next_at + 4

-- behind them what document 02 added to the state: eligible events (Point 7), four bytes
abbrev pub eligible_at : ℕ
eligible_at = reach_at + 4

abbrev pub image_bytes : ℕ
image_bytes = eligible_at + 4

-- an entry's kind: a setting's is below this number, and a load has one of its own
abbrev pub setting_kinds : ℕ
setting_kinds = 6

abbrev pub load_kind : ℕ
load_kind = 255
