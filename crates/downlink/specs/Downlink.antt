-- What the ground reads of an interval that was closed aboard (demand 2; document 01, "Packets"). Assumes nothing.
use Rattle.std.specs.Prelude.{ℕ, zero, suc, ◌+◌, ◌*◌, ◌≤◌, ◌<◌, ◌≡◌, true, List, [], ◌∷◌, ◌++◌, length, take}
use Rattle.causes.specs.Causes.{carried_out}
use Rattle.wire.specs.Bytes.{at16, words}
use Rattle.wire.specs.Lists.{All, EachBelow, all}
use Rattle.boxes.specs.Boxes.{box_count, beacon_count, total_count}
use Rattle.capacity.specs.declared.Capacity.{Capacity}
use Rattle.capacity.specs.Capacity.{numbers_of}
use Rattle.sample_record.specs.Record.{record_good}
use Rattle.tables.specs.Tables.{table_bytes}
use Rattle.load.specs.Staging.{staging_bytes}
use Rattle.rate_code.specs.Second.{second_code}
use Rattle.rate_code.specs.Editions.{second_mark}
use Rattle.packet.specs.Packet.{stamp_of}
use Rattle.decode.specs.Limits.{last_sample}
use Rattle.decode.specs.Ranges.{RateValues, BeaconValues}
use Rattle.ground.specs.Ground.{read_of, records_of}
use Rattle.listing_packet.specs.Listing.{gather_number}
use Rattle.ground.specs.Theorems.{rate_read, sample_read, beacon_read}
use Rattle.gatherer.specs.GatherTheorems.{ListingOf}
use Rattle.state.specs.Limits.{within_limits}
use Rattle.output.specs.Ended.{Ended}
use Rattle.output.specs.Output.{span_bytes, beacon_rates_in, written, packet_at, rate_place, sample_place, beacon_place}
use Rattle.processor.specs.Close.{close_span}
use Rattle.tally.specs.Steps.{Done, after, Lawful, Each}
use Rattle.tally.specs.World.{World, fresh_world}
use Rattle.tally.specs.Calls.{listing, asks, close, SingleCall, owning, Reply, Sent, Answered, close_in, listing_in, sent_in, processor_step}
use Rattle.tally.specs.Tally.{Tally, fresh_tally, sent_for, tally_step}
use Rattle.tally.specs.When.{SlotRight}

-- ---- the output in packets

-- the records that the ground reads of sample packets 0 to n - 1, joined in their order
unfoldable pub records_read : (out : List ℕ) (n : ℕ) → List ℕ
records_read out zero = []
records_read out (suc n) = records_read out n ++ records_of (packet_at out (sample_place n))

-- ---- what the ground reads

-- Demand 2: a packet read back gives its samples and settings exactly, and each rate as its code's least count. "The reader returns
-- kind, header and frame number, with a rate packet's rates, settings and table sum, a beacon's rates, or p and the record bytes": all
-- are accepted, each with its own application number
pub record Received (e : Sent) (out : List ℕ) : Type 0 where
  pub whole : length out ≡ span_bytes e.span
  -- kind rate: totals and boxes as least counts, the settings, the sum of the tables
  pub rates : read_of (packet_at out rate_place)
      ≡ rate_read (stamp_of e.ended.frame e.ended.time second_mark) e.ended.totals e.ended.summary.counts.boxes
      e.ended.settings e.ended.sum
  -- kind sample, with its p
  pub samples : (i : ℕ) → i < e.span.many
      → read_of (packet_at out (sample_place i)) ≡ sample_read (stamp_of e.ended.frame e.ended.time (e.span.first + i))
  -- the records of them all, joined, are the slots that they have
  pub records : records_read out e.span.many ≡ words (take (64 * e.span.many) e.ended.slots)
  -- kind beacon: the beacons, then eligible, replaced and dropped events as least counts
  pub beacons : read_of (packet_at out (beacon_place e.span))
      ≡ beacon_read (stamp_of e.ended.frame e.ended.time second_mark)
      (e.ended.summary.counts.beacons ++ e.ended.summary.eligible ∷ e.ended.summary.replaced ∷ e.ended.summary.dropped ∷ [])
  -- "the beacon packet carries their codes at bytes 35-40" (document 02, Point 7)
  pub eligible_at : at16 (packet_at out (beacon_place e.span)) 35 ≡ second_code e.ended.summary.eligible
  pub replaced_at : at16 (packet_at out (beacon_place e.span)) 37 ≡ second_code e.ended.summary.replaced
  pub dropped_at : at16 (packet_at out (beacon_place e.span)) 39 ≡ second_code e.ended.summary.dropped

-- where there is a sample packet for each 64 slots: the records are all the slots
pub record ReceivedWhole (e : Sent) (out : List ℕ) : Type 0 where
  pub received : Received e out
  pub all_records : records_read out e.span.many ≡ words e.ended.slots

-- ---- of any packets whose values are in their ranges

pub record Fits (e : Sent) : Type 0 where
  pub frame_fits : e.ended.frame < 65536
  pub time_fits : e.ended.time < 4294967296
  pub rates_fit : RateValues e.ended.totals e.ended.summary.counts.boxes e.ended.settings e.ended.sum
  pub beacons_fit : BeaconValues (beacon_rates_in e.ended.summary)
  -- the ground takes each p
  pub samples_fit : e.span.first + e.span.many ≤ last_sample + 1
  pub slots_enough : 64 * e.span.many ≤ length e.ended.slots
  pub slots_fit : EachBelow 4294967296 e.ended.slots
  pub slots_good : all record_good e.ended.slots ≡ true

abbrev pub PacketsReceived : Type 0
PacketsReceived = (e : Sent) → Fits e → Received e (written e.ended e.span)

-- ---- of every close that is carried out

-- what the types of a close's arguments say, and nothing more: a frame number of 16 bits, a time of 32, an hvstep of 8, slots of 32,
-- and the lengths of the interval's three arrays
pub record Typed (e : Ended) : Type 0 where
  pub frame_fits : e.frame < 65536
  pub time_fits : e.time < 4294967296
  pub hvstep_fits : e.settings.hvstep < 256
  pub slots_fit : EachBelow 4294967296 e.slots
  pub totals_are : length e.totals ≡ total_count
  pub boxes_are : length e.summary.counts.boxes ≡ box_count
  pub beacons_are : length e.summary.counts.beacons ≡ beacon_count

abbrev pub CloseReceived : Type 0
CloseReceived =
    (w : World) (time : ℕ) (out : List ℕ) → Typed (sent_in w time).ended
    → (close_in w time out).answer.number ≡ carried_out → ReceivedWhole (sent_in w time) (close_in w time out).out

-- which it is where the state is within its limits and all that is lent is right: tables and staging of 62,985 bytes, slots and output by
-- the capacity, and "each slot zero or of box 6 to 116"
pub record CloseRight (w : World) (out : List ℕ) : Type 0 where
  pub limits : within_limits w.state ≡ true
  pub tables_are : length w.buffers.tables ≡ 62985
  pub staging_is : length w.buffers.staging ≡ 62985
  pub slots_are : length w.buffers.slots ≡ (numbers_of w.state.capacity).slots
  pub slots_right : All SlotRight w.buffers.slots
  pub out_is : length out ≡ span_bytes (close_span w.state.capacity)

abbrev pub CloseCarried : Type 0
CloseCarried = (w : World) (time : ℕ) (out : List ℕ) → CloseRight w out → (close_in w time out).answer.number ≡ 0

-- ---- of every listing that is carried out

-- the gatherer takes it as packet i of these tables
pub record Listed (tables : List ℕ) (i : ℕ) (packet : List ℕ) : Type 0 where
  pub of_tables : ListingOf tables i packet
  pub accepted : gather_number table_bytes packet ≡ carried_out

abbrev pub ListingReceived : Type 0
ListingReceived =
    (w : World) (i time : ℕ) (out : List ℕ) → (listing_in w i time out).number ≡ carried_out
    → Listed w.buffers.tables i (listing_in w i time out).out

-- which it is where the state is within its limits, tables and output have their lengths, and i is one "0 to 249"
abbrev pub ListingCarried : Type 0
ListingCarried =
    (w : World) (i time : ℕ) (out : List ℕ) → within_limits w.state ≡ true → length w.buffers.tables ≡ 62985 → length out ≡ 272
    → i < 250 → (listing_in w i time out).number ≡ 0

-- ---- of every list of calls to a fresh processor

-- of each interval that a call ended, the ground reads what the tally keeps of it, its counts and slots worked out from its events; the
-- time has 32 bits, as its type says. Of each listing, the ground gathers the tally's tables
pub record Brought (t : Tally) (d : Done World Answered) : Type 0 where
  pub intervals : All (λ e. e.ended.time < 4294967296 → ReceivedWhole (sent_for t e.ended.time) d.answer.reply.out) d.answer.facts.ended
  pub listings : All (λ l. Listed t.tables l.i d.answer.reply.out) d.answer.facts.listings

-- for a fresh processor of every capacity, every initial tables, staging and bitmap, and every lawful list of calls
abbrev pub ListReceived : Type 0
ListReceived =
    (c : Capacity) (tables staging bitmap : List ℕ) (cs : List SingleCall) → Lawful processor_step (fresh_world c tables staging bitmap) cs
    → Each processor_step tally_step Brought (fresh_tally c tables staging bitmap) (fresh_world c tables staging bitmap) cs

-- a close after any such list, where tables, staging and output have their lengths: carried out, and received
pub record CarriedDown (t : Tally) (time : ℕ) (r : Reply) : Type 0 where
  pub carried : r.number ≡ carried_out
  pub received : ReceivedWhole (sent_for t time) r.out

abbrev pub NextReceived : Type 0
NextReceived =
    (c : Capacity) (tables staging bitmap : List ℕ) → length tables ≡ table_bytes → length staging ≡ staging_bytes
    → (cs : List SingleCall) → Lawful processor_step (fresh_world c tables staging bitmap) cs
    → (time : ℕ) (out : List ℕ) → time < 4294967296
    → length out ≡ span_bytes (close_span (after tally_step (fresh_tally c tables staging bitmap) cs).capacity)
    → CarriedDown (after tally_step (fresh_tally c tables staging bitmap) cs) time
    (processor_step (after processor_step (fresh_world c tables staging bitmap) cs) (owning (close time out))).answer.reply

-- a listing after any such list, where tables and output have their lengths and i is one of the 250: carried out, and gathered as packet i
-- of the tally's tables
pub record ListedDown (t : Tally) (i : ℕ) (r : Reply) : Type 0 where
  pub carried : r.number ≡ 0
  pub listed : Listed t.tables i r.out

abbrev pub NextListed : Type 0
NextListed =
    (c : Capacity) (tables staging bitmap : List ℕ) → length tables ≡ 62985
    → (cs : List SingleCall) → Lawful processor_step (fresh_world c tables staging bitmap) cs
    → (i time : ℕ) (out : List ℕ) → i < 250 → length out ≡ 272
    → ListedDown (after tally_step (fresh_tally c tables staging bitmap) cs) i
    (processor_step (after processor_step (fresh_world c tables staging bitmap) cs) (owning (asks (listing i time out)))).answer.reply
