-- The numbers of document 01, "Causes and their numbers", each with its sentence. Assumes nothing.
use Rattle.std.specs.Prelude.{ℕ, Result, Ok, Err}
use Rattle.causes.specs.declared.Cause.{Cause}
use Rattle.causes.specs.declared.Cause.TheVariants.{BufferOrState, FieldRange, IntervalFull, LineBytes, WrongLine, LoadWaiting, CommandLimit, PackageForm, PastStaging, PackageSum, NoHeader, PacketSum, BodyFault, NotListed, BadStaged, SumDiffers, NoFirstCode}

-- "A call that is carried out answers 0"
abbrev pub carried_out : ℕ
carried_out = 0

-- "lent buffer (not line, package or packet) of other length, or a state over a limit above or with a waiting command that no line
-- could give"
abbrev pub buffer_or_state : ℕ
buffer_or_state = 1

-- "event field over its range"
abbrev pub field_range : ℕ
field_range = 2

-- "event after 1,000,000 events, reading after 60 readings"
abbrev pub interval_full : ℕ
interval_full = 3

-- "line over 80 or other byte"
abbrev pub line_bytes : ℕ
line_bytes = 4

-- "unknown keyword, wrong argument"
abbrev pub wrong_line : ℕ
wrong_line = 5

-- "a load waits (load, load 0, loadat, package)"; document 02, Point 4: "6 holds, for ask and commit too"
abbrev pub load_waiting : ℕ
load_waiting = 6

-- "32 commands this frame"
abbrev pub command_limit : ℕ
command_limit = 7

-- "no N, N below 2 or not matching the bytes"
abbrev pub package_form : ℕ
package_form = 8

-- "package passes staging's end"
abbrev pub past_staging : ℕ
past_staging = 9

-- "package sum wrong"
abbrev pub package_sum : ℕ
package_sum = 10

-- "packet not 272 bytes, or no header above (any sequence count passes)"
abbrev pub no_header : ℕ
no_header = 11

-- "packet sum wrong"
abbrev pub packet_sum : ℕ
packet_sum = 12

-- "packet body with a fault listed below"
abbrev pub body_fault : ℕ
body_fault = 13

-- document 02, Point 1: "14 when i, or a listing packet's address, is none of these"
abbrev pub not_listed : ℕ
not_listed = 14

-- document 02, Point 4: "15 when a staged byte is bad", below the reach
abbrev pub bad_staged : ℕ
bad_staged = 15

-- document 02, Point 4: "16 when commit's sum differs from that of the bytes lent below the reach"
abbrev pub sum_differs : ℕ
sum_differs = 16

-- document 02, Point 6: "17 when no first-edition code has some rate's least count, after 13"
abbrev pub no_first_code : ℕ
no_first_code = 17

-- the number of a cause
abbrev pub cause_number : Cause → ℕ
cause_number BufferOrState = buffer_or_state
cause_number FieldRange = field_range
cause_number IntervalFull = interval_full
cause_number LineBytes = line_bytes
cause_number WrongLine = wrong_line
cause_number LoadWaiting = load_waiting
cause_number CommandLimit = command_limit
cause_number PackageForm = package_form
cause_number PastStaging = past_staging
cause_number PackageSum = package_sum
cause_number NoHeader = no_header
cause_number PacketSum = packet_sum
cause_number BodyFault = body_fault
cause_number NotListed = not_listed
cause_number BadStaged = bad_staged
cause_number SumDiffers = sum_differs
cause_number NoFirstCode = no_first_code

-- what a call answers: 0 where it is carried out, and otherwise the number of its cause
abbrev pub call_number : {A : Type 0} → Result A Cause → ℕ
call_number (Ok _) = carried_out
call_number (Err c) = cause_number c
