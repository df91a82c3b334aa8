-- Calls to one processor, what it makes of the world and what it answers (document 01, "The tally of demand 3"): one clause for each in
-- `processed`, made of the calls' own definitions, those that the contracts cite. Assumes nothing.
use Rattle.std.specs.Prelude.{◌≡◌, Bool, cond, List, [], ◌∷◌, ℕ, eqb, length}
use Rattle.causes.specs.Causes.{carried_out}
use Rattle.wire.specs.Bytes.{zeros}
use Rattle.wire.specs.Lists.{EachBelow}
use Rattle.sort.specs.declared.event.Event.{Event}
use Rattle.output.specs.declared.Summary.{Summary}
use Rattle.output.specs.declared.Span.{Span}
use Rattle.output.specs.Ended.{Ended, ended_in}
use Rattle.output.specs.Output.{written}
use Rattle.listing_packet.specs.Listing.{listing_packet}
use Rattle.processor.specs.Answer.{Answer}
use Rattle.processor.specs.Event.{EventDone, event_done}
use Rattle.processor.specs.Reading.{reading_done}
use Rattle.take_line.specs.Line.{LineDone}
use Rattle.processor.specs.Line.{line_done}
use Rattle.take_package.specs.Package.{is_staged}
use Rattle.processor.specs.Package.{PackageDone, package_done}
use Rattle.end_interval.specs.End.{state_ended, tables_ended}
use Rattle.processor.specs.Close.{close_span, CloseDone, close_done}
use Rattle.processor.specs.Listing.{ListingDone, listing_done}
use Rattle.tally.specs.Steps.{Done}
use Rattle.tally.specs.World.{World, with_state, with_slots, Lending, all_own, owns_all, lend, give_back, others_left}

-- "eight 16-bit counts": what the type of a reading's argument says
pub record Counts8 : Type 0 where
  pub counts : List ℕ
  pub eight : length counts ≡ 8
  pub below : EachBelow 65536 counts

-- what is asked, with its arguments; echo and output are buffers of each call
pub data Request : Type 0 where
  event : Event → Request
  reading : Counts8 → Request
  line : (bytes echo : List ℕ) → Request
  load_package : (bytes echo : List ℕ) → Request
  listing : (i time : ℕ) (out : List ℕ) → Request

-- with what is lent
pub record Call (A : Type 0) : Type 0 where
  pub lent : Lending
  pub request : A

-- with the processor's own buffers
abbrev pub owning : {A : Type 0} → A → Call A
owning a = record { lent = all_own; request = a }

-- ---- answers: one record with a field for each thing that some call returns beside the state, so that nothing goes by cases on it

-- "An answer is all that is returned beside the state", with echo and output
pub record Reply : Type 0 where
  pub number : ℕ
  pub sum : ℕ
  pub echo : List ℕ
  -- of each interval that a close ended, and zeros of one that was refused
  pub summaries : List Summary
  pub out : List ℕ

-- the one place where all fields stand: a field that only one more call returns is zero or empty here
abbrev pub replied : (number sum : ℕ) (echo : List ℕ) → List Summary → (out : List ℕ) → Reply
replied n sum echo summaries out = record { number = n; sum = sum; echo = echo; summaries = summaries; out = out }

abbrev pub answered : (number : ℕ) → Reply
answered n = replied n 0 [] [] []

abbrev pub echoed : (number sum : ℕ) (echo : List ℕ) → Reply
echoed n sum echo = replied n sum echo [] []

abbrev pub listed : (number : ℕ) (out : List ℕ) → Reply
listed n out = replied n 0 [] [] out

abbrev pub closed : (number : ℕ) → List Summary → (out : List ℕ) → Reply
closed n summaries out = replied n 0 [] summaries out

-- ---- what packets are written from

-- an interval that was ended, and the sample packets that its close wrote
pub record Sent : Type 0 where
  pub ended : Ended
  pub span : Span

abbrev pub closed_with : Sent → Reply
closed_with e = closed carried_out (e.ended.summary ∷ []) (written e.ended e.span)

-- packet i of the tables' listing
pub record Listing : Type 0 where
  pub frame : ℕ
  pub time : ℕ
  pub i : ℕ
  pub tables : List ℕ

abbrev pub written_listing : Listing → List ℕ
written_listing l = listing_packet l.frame l.time l.i l.tables

-- ---- what claims must know of a call beside its answer: nothing, for most

pub record Facts : Type 0 where
  -- how many events it takes
  pub takes : ℕ
  -- the intervals that it ends
  pub ended : List Sent
  -- the listings that it writes
  pub listings : List Listing

abbrev pub nothing : Facts
nothing = record { takes = 0; ended = []; listings = [] }

abbrev pub one_event : Facts
one_event = record { takes = 1; ended = []; listings = [] }

abbrev pub one_ended : Sent → Facts
one_ended e = record { takes = 0; ended = e ∷ []; listings = [] }

abbrev pub one_listing : Listing → Facts
one_listing l = record { takes = 0; ended = []; listings = l ∷ [] }

-- all that a list's answers are compared by: also what is left in buffers that are not the own
pub record Answered : Type 0 where
  pub reply : Reply
  pub facts : Facts
  pub others : List (List ℕ)

-- ---- one call: what it makes of the world that it is lent

pub record Made : Type 0 where
  pub carried : Bool
  pub next : World
  pub reply : Reply
  pub facts : Facts

abbrev pub event_in : World → Event → EventDone
event_in w e = event_done w.state w.buffers.tables w.buffers.slots e

abbrev pub reading_in : World → Counts8 → Answer
reading_in w c = reading_done w.state c.counts

abbrev pub line_in : World → (bytes echo : List ℕ) → LineDone
line_in w bytes echo = line_done w.state bytes w.buffers.staging w.buffers.bitmap echo

abbrev pub package_in : World → (bytes echo : List ℕ) → PackageDone
package_in w bytes echo = package_done w.state bytes w.buffers.staging w.buffers.bitmap echo

abbrev pub close_in : World → (time : ℕ) (out : List ℕ) → CloseDone
close_in w time out = close_done w.state time w.buffers.tables w.buffers.staging w.buffers.slots out

abbrev pub listing_in : World → (i time : ℕ) (out : List ℕ) → ListingDone
listing_in w i time out = listing_done w.state i time w.buffers.tables out

-- the interval that the world holds, as a close at this time hands it to the packets
abbrev pub sent_in : World → (time : ℕ) → Sent
sent_in w time = record { ended = ended_in w.state time w.buffers.tables w.buffers.slots; span = close_span w.state.capacity }

abbrev pub listing_of : World → (i time : ℕ) → Listing
listing_of w i time = record { frame = w.state.frame; time = time; i = i; tables = w.buffers.tables }

-- by the number that it answers: whether it is carried out, what it makes of the world, what it answers, and what is known of it then
abbrev pub made : (carried : Bool) → World → Reply → Facts → Made
made b w r f = record { carried = b; next = w; reply = r; facts = cond b f nothing }

abbrev pub is_zero : (number : ℕ) → Bool
is_zero n = eqb n carried_out

-- "A call that is carried out answers 0", and a package answered 10 is placed; "Listing changes nothing aboard"
unfoldable pub processed : World → Request → Made
processed w (event e) =
    let d = event_in w e in
    made (is_zero d.answer.number) (with_slots w d.answer.state d.slots) (answered d.answer.number) one_event
processed w (reading c) = let d = reading_in w c in made (is_zero d.number) (with_state w d.state) (answered d.number) nothing
processed w (line bytes echo) =
    let d = line_in w bytes echo in
    made (is_zero d.answer.number) (with_state w d.answer.state) (echoed d.answer.number d.answer.sum d.echo) nothing
processed w (load_package bytes echo) =
    let d = package_in w bytes echo in
    made (is_staged d.answer.number)
    (record {
      state = d.answer.state;
      buffers = record { tables = w.buffers.tables; staging = d.staging; bitmap = d.bitmap; slots = w.buffers.slots };
    })
    (echoed d.answer.number 0 d.echo) nothing
processed w (listing i time out) =
    let d = listing_in w i time out in
    made (is_zero d.number) w (listed d.number d.out) (one_listing (listing_of w i time))

-- ---- with what it is lent

abbrev pub given : Lending → World → Made → Done World Answered
given l w m = record {
  carried = m.carried;
  owned = owns_all l;
  next = give_back l w m.next;
  answer = record { reply = m.reply; facts = m.facts; others = others_left l m.next };
}

-- whatever is asked, by what it makes of the world that it is lent
unfoldable pub processed_by : {A : Type 0} → (World → A → Made) → World → Call A → Done World Answered
processed_by processed w c = given c.lent w (processed (lend c.lent w) c.request)

-- what the end of an interval makes of the world: commands run, counts and slots are zero
abbrev pub ends : World → World
ends w = record {
  state = state_ended w.state;
  buffers = record {
    tables = tables_ended w.state w.buffers.tables w.buffers.staging;
    staging = w.buffers.staging;
    bitmap = w.buffers.bitmap;
    slots = zeros (length w.buffers.slots);
  };
}

-- ---- a close: a single telescope's call, and no request of one that is half of a pair

unfoldable pub close_processed : World → (time : ℕ) (out : List ℕ) → Made
close_processed w time out =
    let d = close_in w time out in
    made (is_zero d.answer.number)
    (record {
      state = d.answer.state;
      buffers = record { tables = d.tables; staging = w.buffers.staging; bitmap = w.buffers.bitmap; slots = d.slots };
    })
    (closed d.answer.number (d.answer.summary ∷ []) d.out)
    (one_ended (sent_in w time))

pub data SingleRequest : Type 0 where
  asks : Request → SingleRequest
  close : (time : ℕ) (out : List ℕ) → SingleRequest

unfoldable pub single_processed : World → SingleRequest → Made
single_processed w (asks a) = processed w a
single_processed w (close time out) = close_processed w time out

abbrev pub SingleCall : Type 0
SingleCall = Call SingleRequest

abbrev pub processor_step : World → SingleCall → Done World Answered
processor_step = processed_by single_processed
