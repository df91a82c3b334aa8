-- The tally (document 01, "The tally of demand 3"): it works from the calls' arguments, and keeps the interval's events; every count,
-- the samples and the packets are worked out from them. Assumes nothing.
use Rattle.std.specs.Prelude.{Bool, true, false, ◌&&◌, not, cond, List, [], ◌∷◌, ◌++◌, map, ℕ, ◌+◌, ◌%◌, eqb, leb, ltb, length, get_or}
use Rattle.causes.specs.Causes as cause
use Rattle.causes.specs.Checks.{Check, number_by}
use Rattle.wire.specs.Bytes.{total}
use Rattle.wire.specs.Pieces.{table, each}
use Rattle.boxes.specs.Boxes.{total_count}
use Rattle.capacity.specs.declared.Capacity.{Capacity}
use Rattle.capacity.specs.Capacity.{numbers_of}
use Rattle.settings.specs.declared.Settings.{Settings}
use Rattle.settings.specs.Settings.{fresh_settings}
use Rattle.sort.specs.declared.event.Event.{Event}
use Rattle.counts.specs.declared.Counts.{Counts}
use Rattle.samples.specs.Selection.{Selection, selection_of}
use Rattle.packet.specs.TableSum.{table_sum}
use Rattle.load.specs.declared.staging.Addresses.{Addresses}
use Rattle.load.specs.Bitmap.{bitmap_after, none_bad, staged_sum}
use Rattle.load.specs.Staging.{payload_bytes, received_sum, computed_sum, staging_after, addresses_after, fresh_addresses}
use Rattle.echo.specs.Echo.{refused_echo}
use Rattle.command.specs.declared.command.Line.{Line}
use Rattle.command.specs.declared.command.Line.TheVariants.{Empty, Wrong, Change, LoadZero, LoadAt, Ask, Commit}
use Rattle.command.specs.declared.ranges.Ranges.{Ranges}
use Rattle.command.specs.Asked.{traits_of}
use Rattle.command.specs.Grammar.{line_of}
use Rattle.command_list.specs.declared.Waiting.{Waiting}
use Rattle.command_list.specs.CommandList.{most_commands, loads_in, left_waiting}
use Rattle.command_list.specs.Run.{settings_after_all, tables_after_all, addresses_after_all}
use Rattle.output.specs.declared.Summary.{Summary}
use Rattle.output.specs.Ended.{Ended}
use Rattle.take_event.specs.Event.{event_lent, event_checks}
use Rattle.take_reading.specs.Reading.{reading_checks}
use Rattle.take_line.specs.Line.{line_lent, line_checks, command_checks, sum_returned, addresses_after_line, line_echo}
use Rattle.take_package.specs.Package.{package_lent, package_call_checks, is_staged, staged_echo}
use Rattle.end_interval.specs.End.{end_lent, no_summary}
use Rattle.processor.specs.Close.{close_span, out_right, close_checks}
use Rattle.processor.specs.Listing.{listing_lent, listing_checks}
use Rattle.tally.specs.Steps.{Done}
use Rattle.tally.specs.World.{Buffers, zip_each, Lent, own, other, found, Lending, owns_all, others_lent}
use Rattle.tally.specs.Calls.{Request, event, reading, line, load_package, listing, Call, SingleRequest, asks, close, SingleCall}
use Rattle.tally.specs.Calls.{Reply, answered, echoed, closed, listed, Sent, closed_with, Listing, written_listing}
use Rattle.tally.specs.Calls.{Facts, nothing, one_event, one_ended, one_listing, Answered, is_zero}
use Rattle.tally.specs.Events.{counts_by}

-- "waiting commands, how many were accepted"
pub record Commands : Type 0 where
  pub accepted : ℕ
  pub waiting : List Waiting

-- "readings, and the interval's events in order"
pub record OpenInterval : Type 0 where
  pub events : List Event
  pub readings : List (List ℕ)

-- which package wrote a staged byte last: none, one with a right sum, or one with a wrong sum
pub data Wrote : Type 0 where
  unwritten : Wrote
  by_right : Wrote
  by_wrong : Wrote

-- document 02, Point 4: a byte that "was last written by a package with a wrong sum"
abbrev pub is_wrong : Wrote → Bool
is_wrong unwritten = false
is_wrong by_right = false
is_wrong by_wrong = true

-- "It keeps tables and staging .., next address, reach, settings, waiting commands, how many were accepted, readings, and the
-- interval's events in order", and how many closes there were; document 02, Point 4: "the tally keeping which staged bytes are bad", by
-- the packages alone. Of the lent bitmap it keeps what it holds, and judges by its length alone. Of the line "commit a y sum" it keeps the
-- sum, which the command that waits does not have
pub record Tally : Type 0 where
  pub capacity : Capacity
  pub closes : ℕ
  pub tables : List ℕ
  pub staging : List ℕ
  pub bitmap : List ℕ
  pub wrote : (i : ℕ) → Wrote
  pub addresses : Addresses
  pub settings : Settings
  pub commands : Commands
  -- the sum that the last accepted commit gave
  pub agreed : ℕ
  pub interval : OpenInterval

abbrev pub no_commands : Commands
no_commands = record { accepted = 0; waiting = [] }

abbrev pub empty_interval : OpenInterval
empty_interval = record { events = []; readings = [] }

-- "(at first whatever bytes the lent ones hold) .. the rest starts as Fresh says"
abbrev pub fresh_tally : Capacity → (tables staging bitmap : List ℕ) → Tally
fresh_tally c tables staging bitmap = record {
  capacity = c;
  closes = 0;
  tables = tables;
  staging = staging;
  bitmap = bitmap;
  wrote = λ i. unwritten;
  addresses = fresh_addresses;
  settings = fresh_settings;
  commands = no_commands;
  agreed = 0;
  interval = empty_interval;
}

-- ---- what is worked out from the events and readings, "from the tally's tables and settings"

abbrev pub events_of : Tally → List Event
events_of t = t.interval.events

abbrev pub counts_of : Tally → Counts
counts_of t = counts_by t.settings t.tables (events_of t)

-- the number of slots
abbrev pub slots_for : Tally → ℕ
slots_for t = (numbers_of t.capacity).slots

-- the eligible ones among the events, and what becomes of the slots
abbrev pub selected : Tally → Selection
selected t = selection_of (slots_for t) t.settings t.tables (events_of t)

-- each total: the sum of its counts in all readings
unfoldable pub totals_by : List (List ℕ) → List ℕ
totals_by rs = table total_count (λ i. total (map (λ r. get_or r i 0) rs))

abbrev pub totals_of : Tally → List ℕ
totals_of t = totals_by t.interval.readings

abbrev pub frame_of : Tally → ℕ
frame_of t = t.closes % 65536

-- ---- the number of a call, "judged by what the tally keeps and what the call lends, the same slots being taken as the tally's"

abbrev pub load_waits_for : Tally → Bool
load_waits_for t = leb 1 (loads_in t.commands.waiting)

abbrev pub full_for : Tally → Bool
full_for t = leb most_commands t.commands.accepted

-- the reach, and LIMHI's largest value
abbrev pub ranges_for : Tally → Ranges
ranges_for t = record { reach = t.addresses.reach; limhi = (numbers_of t.capacity).limhi }

abbrev pub line_for : Tally → (bytes : List ℕ) → Line
line_for t bytes = line_of bytes (ranges_for t)

-- no byte below the reach was last written by a package with a wrong sum; of another bitmap than the own it is as that says
abbrev pub none_wrong : (wrote : ℕ → Wrote) (reach : ℕ) → Bool
none_wrong wrote reach = each reach (λ i. not (is_wrong (wrote i)))

abbrev pub good_for : Tally → Lent → Bool
good_for t own = none_wrong t.wrote t.addresses.reach
good_for t (other x) = none_bad x t.addresses.reach

abbrev pub sum_for : Tally → Lent → ℕ
sum_for t l = staged_sum (found l t.staging) t.addresses.reach

-- what the own buffers hold, as the tally keeps it or works it out
abbrev pub buffers_of : Tally → Buffers (List ℕ)
buffers_of t = record { tables = t.tables; staging = t.staging; bitmap = t.bitmap; slots = (selected t).slots }

-- what a call finds in what it is lent
abbrev pub lent_to : Tally → Lending → Buffers (List ℕ)
lent_to t l = zip_each found l (buffers_of t)

-- by the calls' own checks, where the tally's state is within its limits
abbrev pub event_checks_for : Tally → Lending → Event → List Check
event_checks_for t l e =
    event_checks (event_lent t.capacity (length (lent_to t l).tables) (length (lent_to t l).slots)) (length (events_of t)) e

unfoldable pub event_number_for : Tally → Lending → Event → ℕ
event_number_for t l e = number_by (event_checks_for t l e)

unfoldable pub reading_number_for : Tally → ℕ
reading_number_for t = number_by (reading_checks true (length t.interval.readings))

abbrev pub line_checks_for : Tally → Lending → (bytes echo : List ℕ) → List Check
line_checks_for t l bytes echo =
    line_checks (line_lent (length (lent_to t l).staging) (length (lent_to t l).bitmap) (length echo)) bytes
    (command_checks (load_waits_for t) (full_for t) (good_for t l.bitmap) (sum_for t l.staging) (line_for t bytes))

unfoldable pub line_number_for : Tally → Lending → (bytes echo : List ℕ) → ℕ
line_number_for t l bytes echo = number_by (line_checks_for t l bytes echo)

unfoldable pub package_number_for : Tally → Lending → (bytes echo : List ℕ) → ℕ
package_number_for t l bytes echo =
    number_by
    (package_call_checks (package_lent (length (lent_to t l).staging) (length (lent_to t l).bitmap) (length echo)) (load_waits_for t) bytes
    t.addresses.next)

abbrev pub close_sound_for : Tally → Lending → (out : List ℕ) → Bool
close_sound_for t l out =
    let b = lent_to t l in
    end_lent t.capacity (length b.tables) (length b.staging) b.slots && out_right t.capacity (length out)

unfoldable pub close_number_for : Tally → Lending → (out : List ℕ) → ℕ
close_number_for t l out = number_by (close_checks (close_sound_for t l out))

unfoldable pub listing_number_for : Tally → Lending → (i : ℕ) (out : List ℕ) → ℕ
listing_number_for t l i out = number_by (listing_checks (listing_lent (length (lent_to t l).tables) (length out)) i)

-- ---- the tally after a call

abbrev pub with_open : Tally → OpenInterval → Tally
with_open t g = record {
  capacity = t.capacity;
  closes = t.closes;
  tables = t.tables;
  staging = t.staging;
  bitmap = t.bitmap;
  wrote = t.wrote;
  addresses = t.addresses;
  settings = t.settings;
  commands = t.commands;
  agreed = t.agreed;
  interval = g;
}

abbrev pub with_commands : Tally → Commands → Addresses → (agreed : ℕ) → Tally
with_commands t o a n = record {
  capacity = t.capacity;
  closes = t.closes;
  tables = t.tables;
  staging = t.staging;
  bitmap = t.bitmap;
  wrote = t.wrote;
  addresses = a;
  settings = t.settings;
  commands = o;
  agreed = n;
  interval = t.interval;
}

-- "Event: joins the events"
abbrev pub event_joined : Tally → Event → Tally
event_joined t e = with_open t (record { events = events_of t ++ e ∷ []; readings = t.interval.readings })

-- "Reading: counted"
abbrev pub read : Tally → List ℕ → Tally
read t counts = with_open t (record { events = events_of t; readings = t.interval.readings ++ counts ∷ [] })

-- "Line: counted, and waits or is carried out; an empty one does nothing"
abbrev pub one_more : Commands → List Waiting → Commands
one_more o ws = record { accepted = o.accepted + 1; waiting = ws }

abbrev pub commands_after : Commands → Line → Commands
commands_after o l = cond (traits_of l).command (one_more o (o.waiting ++ left_waiting (traits_of l).leaves)) o

-- "commit a y sum": the sum that it gives
abbrev pub agreed_after : (agreed : ℕ) → Line → ℕ
agreed_after n Empty = n
agreed_after n Wrong = n
agreed_after n (Change k x) = n
agreed_after n LoadZero = n
agreed_after n (LoadAt a) = n
agreed_after n Ask = n
agreed_after n (Commit a y sum) = sum

abbrev pub line_taken : Tally → Line → Tally
line_taken t l = with_commands t (commands_after t.commands l) (addresses_after_line t.addresses l) (agreed_after t.agreed l)

-- a package's bytes were last written by it
abbrev pub writer_by : (right : Bool) → Wrote
writer_by r = cond r by_right by_wrong

-- those that n bytes from `next` on were written by, and the others as before
abbrev pub wrote_after : (wrote : ℕ → Wrote) (next n : ℕ) → Wrote → (i : ℕ) → Wrote
wrote_after wrote next n by i = cond (leb next i && ltb i (next + n)) by (wrote i)

-- "Package: placed"
abbrev pub package_placed : Tally → List ℕ → Tally
package_placed t bytes = record {
  capacity = t.capacity;
  closes = t.closes;
  tables = t.tables;
  staging = staging_after t.staging t.addresses.next bytes;
  bitmap = bitmap_after t.bitmap t.addresses.next (payload_bytes bytes) (not (eqb (received_sum bytes) (computed_sum bytes)));
  wrote = wrote_after t.wrote t.addresses.next (payload_bytes bytes) (writer_by (eqb (received_sum bytes) (computed_sum bytes)));
  addresses = addresses_after t.addresses bytes;
  settings = t.settings;
  commands = t.commands;
  agreed = t.agreed;
  interval = t.interval;
}

-- "Close: ends the interval; waiting commands run in order; events, readings and accepted commands are none again"
abbrev pub ended : Tally → Tally
ended t = record {
  capacity = t.capacity;
  closes = t.closes + 1;
  tables = tables_after_all t.tables t.staging t.addresses.reach t.commands.waiting;
  staging = t.staging;
  bitmap = t.bitmap;
  wrote = t.wrote;
  addresses = addresses_after_all t.addresses t.commands.waiting;
  settings = settings_after_all t.settings t.commands.waiting;
  commands = no_commands;
  agreed = t.agreed;
  interval = empty_interval;
}

-- what a close returns: taken is the number of events, and the counts of samples are worked out from the events as well (document 02,
-- Point 7: "each count defined from the events, not the record")
abbrev pub summary_for : Tally → Summary
summary_for t = record {
  taken = length (events_of t);
  counts = counts_of t;
  filled = (selected t).filled;
  eligible = length (selected t).eligibles;
  replaced = (selected t).replaced;
  dropped = (selected t).dropped;
}

-- what it hands to the packets
abbrev pub ended_for : Tally → (time : ℕ) → Ended
ended_for t time = record {
  frame = frame_of t;
  time = time;
  totals = totals_of t;
  summary = summary_for t;
  settings = t.settings;
  sum = table_sum t.tables;
  slots = (selected t).slots;
}

abbrev pub sent_for : Tally → (time : ℕ) → Sent
sent_for t time = record { ended = ended_for t time; span = close_span t.capacity }

abbrev pub listing_for : Tally → (i time : ℕ) → Listing
listing_for t i time = record { frame = frame_of t; time = time; i = i; tables = t.tables }

-- ---- the calls, one clause for each

-- whether it is carried out; the tally, the answer and what is known of it then; what it answers where it is refused
pub record Judged : Type 0 where
  pub carried : Bool
  pub next : Tally
  pub done : Reply
  pub facts : Facts
  pub refused : Reply

abbrev pub judged : (carried : Bool) → Tally → (done : Reply) → Facts → (refused : Reply) → Judged
judged b t r f q = record { carried = b; next = t; done = r; facts = f; refused = q }

-- the numbers of a call that changes something: 0, and for a package 10 ("a package answered 10, and only that one is placed")
unfoldable pub tallied : Tally → Lending → Request → Judged
tallied t l (event e) =
    let n = event_number_for t l e in
    judged (is_zero n) (event_joined t e) (answered cause.carried_out) one_event (answered n)
tallied t l (reading c) =
    let n = reading_number_for t in
    judged (is_zero n) (read t c.counts) (answered cause.carried_out) nothing (answered n)
tallied t l (line bytes echo) =
    let n = line_number_for t l bytes echo in
    let sum = sum_returned (line_for t bytes) (sum_for t l.staging) in
    judged (is_zero n) (line_taken t (line_for t bytes)) (echoed cause.carried_out sum (line_echo (frame_of t) t.commands.accepted bytes)) nothing
    (echoed n 0 (cond (leb cause.wrong_line n) (refused_echo bytes) echo))
tallied t l (load_package bytes echo) =
    let n = package_number_for t l bytes echo in
    judged (is_staged n) (package_placed t bytes) (echoed n 0 (staged_echo n t.addresses.next bytes)) nothing (echoed n 0 echo)
tallied t l (listing i time out) =
    let n = listing_number_for t l i out in
    let p = listing_for t i time in
    judged (is_zero n) t (listed cause.carried_out (written_listing p)) (one_listing p) (listed n out)

-- a call that is refused changes nothing; and no call changes a buffer that is not the processor's own
abbrev pub tallied_as : Tally → Lending → Judged → Done Tally Answered
tallied_as t l j = record {
  carried = j.carried;
  owned = owns_all l;
  next = cond j.carried j.next t;
  answer = record {
    reply = cond j.carried j.done j.refused;
    facts = cond j.carried j.facts nothing;
    others = others_lent l;
  };
}

unfoldable pub tallied_by : {A : Type 0} → (Tally → Lending → A → Judged) → Tally → Call A → Done Tally Answered
tallied_by tallied t c = tallied_as t c.lent (tallied t c.lent c.request)

-- a close
unfoldable pub close_tallied : Tally → Lending → (time : ℕ) (out : List ℕ) → Judged
close_tallied t l time out =
    let n = close_number_for t l out in
    judged (is_zero n) (ended t) (closed_with (sent_for t time)) (one_ended (sent_for t time)) (closed n (no_summary ∷ []) out)

unfoldable pub single_tallied : Tally → Lending → SingleRequest → Judged
single_tallied t l (asks a) = tallied t l a
single_tallied t l (close time out) = close_tallied t l time out

abbrev pub tally_step : Tally → SingleCall → Done Tally Answered
tally_step = tallied_by single_tallied
