-- Demand 3: one claim about every list of calls to a fresh processor (document 01, "The tally of demand 3"; document 02, Point 7).
-- Assumes nothing.
use Rattle.std.specs.Prelude.{◌≡◌, ◌≢◌, ◌⊎◌, true, cond, List, [], ◌∷◌, ◌++◌, map, ℕ, ◌+◌, ◌-◌, ◌*◌, ◌≤◌, ◌<◌, min, length, get_or, take, drop}
use Rattle.wire.specs.Bytes.{words, total}
use Rattle.wire.specs.Lists.{All, keep}
use Rattle.capacity.specs.declared.Capacity.{Capacity}
use Rattle.tables.specs.Tables.{table_bytes}
use Rattle.counts.specs.declared.Counts.{Counts}
use Rattle.sort.specs.declared.event.Event.{Event}
use Rattle.samples.specs.Samples.{filled}
use Rattle.samples.specs.Selection.{OfDifferentEvents}
use Rattle.load.specs.Bitmap.{is_bad, staged_sum}
use Rattle.load.specs.Load.{loaded}
use Rattle.command.specs.declared.command.Command.TheVariants.{Load}
use Rattle.command_list.specs.declared.Waiting.{Waiting}
use Rattle.listing_packet.specs.Listing.{listing_packets}
use Rattle.state.specs.Limits.{within_limits}
use Rattle.output.specs.declared.Summary.{Summary}
use Rattle.output.specs.Ended.{summary_of}
use Rattle.output.specs.Output.{written, packet_at, sample_place}
use Rattle.tally.specs.Steps.{Done, replies, after, Lawful, Followed}
use Rattle.tally.specs.World.{World, fresh_world}
use Rattle.tally.specs.Calls.{SingleCall, Reply, Sent, Listing, written_listing, Answered, processor_step}
use Rattle.tally.specs.Tally.{Wrote, unwritten, by_right, is_wrong, Tally, fresh_tally, events_of, slots_for, selected, summary_for}
use Rattle.tally.specs.Tally.{load_waits_for, sent_for, listing_for, tally_step}
use Rattle.tally.specs.Events.{is_sample, with_priority, without_priority}
use Rattle.tally.specs.View.{view}

-- ---- the balances

-- the count of box b, and the sum of boxes 8 to 116
abbrev pub box : Counts → (b : ℕ) → ℕ
box c b = get_or c.boxes (b - 1) 0

abbrev pub cells : Counts → ℕ
cells c = total (drop 7 c.boxes)

pub record Balanced (s : Summary) : Type 0 where
  -- every event is discarded, out of bounds, or in one box of 7 to 116
  pub boxes : s.taken ≡ box s.counts 5 + box s.counts 6 + box s.counts 7 + cells s.counts
  -- every event in a cell's box has its priority
  pub priorities : box s.counts 1 + box s.counts 2 ≡ box s.counts 7 + cells s.counts
  -- every event that is not discarded has its gain
  pub gains : box s.counts 3 + box s.counts 4 ≡ box s.counts 6 + box s.counts 7 + cells s.counts
  -- "Eligible = filled + replaced + dropped" (document 02, Point 7)
  pub samples : s.eligible ≡ s.filled + s.replaced + s.dropped

-- what the counts of samples are by where the interval's events count (document 01, "Samples"; document 02, Point 7)
pub record SamplesCounted (t : Tally) (s : Summary) : Type 0 where
  -- "boxes 8 to 116 are eligible; boxes 6 and 7 only with junk 1"
  pub eligible_are : s.eligible ≡ cells s.counts + cond t.settings.junk (box s.counts 6 + box s.counts 7) 0
  -- up to "the 704th eligible one" none is replaced and none dropped
  pub none_later : s.eligible ≤ slots_for t → (s.replaced ≡ 0) × (s.dropped ≡ 0)
  -- "replaced counts the priority 1 eligible events after the 704th eligible one, or is LIMHI if less": `first` ends with that one
  pub replaced_are : (first after : List Event) → events_of t ≡ first ++ after
      → length (keep (is_sample t.settings t.tables) first) ≡ slots_for t
      → s.replaced ≡ min t.settings.limhi (length (keep (with_priority t.settings t.tables) after))
  -- "dropped counts every other one after the 704th"
  pub dropped_are : (first after : List Event) → events_of t ≡ first ++ after
      → length (keep (is_sample t.settings t.tables) first) ≡ slots_for t
      → s.dropped ≡ length (keep (without_priority t.settings t.tables) after)
      + (length (keep (with_priority t.settings t.tables) after) - t.settings.limhi)

-- ---- the samples

-- the slots are the records of different eligible events of the interval, as many as the sample rule fills
abbrev pub Samples : Tally → (slots : List ℕ) → Type 0
Samples t slots = OfDifferentEvents (slots_for t) t.settings t.tables (events_of t) (selected t).filled slots

-- ---- the staged bytes

abbrev pub StagedKnown : (bitmap : List ℕ) (wrote : ℕ → Wrote) (reach : ℕ) → Type 0
StagedKnown bitmap wrote reach = (i : ℕ) → i < reach → (wrote i ≢ unwritten) × (is_bad bitmap i ≡ is_wrong (wrote i))

abbrev pub AllRight : (wrote : ℕ → Wrote) (reach : ℕ) → Type 0
AllRight wrote reach = (i : ℕ) → i < reach → wrote i ≡ by_right

-- ---- at every moment: before each call, and at the end

pub record Moment (t : Tally) (w : World) : Type 0 where
  -- the state and the own buffers are the tally's
  pub same : w ≡ view t
  pub limits : within_limits w.state ≡ true
  -- what a close would return now is the tally's, each count from the events: of an open interval "those of the state and the lent slots"
  pub summary_is : summary_of w.state w.buffers.slots ≡ summary_for t
  pub balanced : Balanced (summary_of w.state w.buffers.slots)
  pub samples_counted : SamplesCounted t (summary_of w.state w.buffers.slots)
  -- as many slots are filled as there are eligible events, up to their number
  pub filled_are : filled w.buffers.slots ≡ min (slots_for t) (length (selected t).eligibles)
  pub samples : Samples t w.buffers.slots
  -- below the reach, every byte was written by a package, and the own bitmap tells those that are bad
  pub staged_known : StagedKnown w.buffers.bitmap t.wrote w.state.staging.reach
  -- while a commit waits, every byte below the reach was last written by a package with a right sum: that is what a close loads
  pub commit_right : load_waits_for t ≡ true → AllRight t.wrote t.addresses.reach
  -- and their sum is the one that the commit gave
  pub commit_agrees : load_waits_for t ≡ true → staged_sum t.staging t.addresses.reach ≡ t.agreed

-- ---- of each call

-- "A closed interval has the counts its close returned and the slots in its packets"

-- bytes 11-266 of the sample packet with the slots from 64i on
abbrev pub records_in : (out : List ℕ) (i : ℕ) → List ℕ
records_in out i = take 256 (drop 11 (packet_at out (sample_place i)))

-- what a close returned of the interval that it ended
pub record ClosedInterval (t : Tally) (r : Reply) (e : Sent) : Type 0 where
  pub sent_is : e ≡ sent_for t e.ended.time
  pub out_is : r.out ≡ written e.ended e.span
  -- "packet p (0 to 10) has slots 64p to 64p + 63"
  pub slots_are : (i : ℕ) → i < e.span.many → records_in r.out i ≡ words (take 64 (drop (64 * i) (selected t).slots))
  pub samples : Samples t (selected t).slots
  pub samples_counted : SamplesCounted t e.ended.summary

-- a commit waits with this a and y
abbrev pub CommitWaits : List Waiting → (a y : ℕ) → Type 0
CommitWaits [] a y = ⊥
CommitWaits (w ∷ ws) a y = (w.command ≡ Load a y) ⊎ CommitWaits ws a y

-- what a close makes of the tables where such a commit waits: "load a y packs the reach", here into the tables as they were
pub record Loads (t : Tally) (tables : List ℕ) (a y : ℕ) : Type 0 where
  pub tables_are : tables ≡ loaded t.tables t.staging a y t.addresses.reach
  -- "no byte below the reach was last written by a package with a wrong sum": each was last written by one with a right sum
  pub bytes_right : AllRight t.wrote t.addresses.reach
  -- "16 when commit's sum differs from that of the bytes lent below the reach": theirs is the one that the commit gave
  pub sum_is : total (take t.addresses.reach t.staging) ≡ t.agreed

-- what the waiting commands make of the tables: a commit loads, and no other command changes them
pub record TablesRun (t : Tally) (tables : List ℕ) : Type 0 where
  pub loads : (a y : ℕ) → CommitWaits t.commands.waiting a y → Loads t tables a y
  pub otherwise : ((a y : ℕ) → CommitWaits t.commands.waiting a y → ⊥) → tables ≡ t.tables

-- what a listing returned of the tables
pub record ListedPart (t : Tally) (r : Reply) (l : Listing) : Type 0 where
  pub listing_is : l ≡ listing_for t l.i l.time
  pub tables_are : length t.tables ≡ table_bytes
  pub i_below : l.i < listing_packets
  pub out_is : r.out ≡ written_listing l

-- the events that are returned out
abbrev pub taken_in : List Summary → ℕ
taken_in [] = 0
taken_in (h ∷ hs) = h.taken + taken_in hs

abbrev pub summaries_in : List Sent → List Summary
summaries_in [] = []
summaries_in (e ∷ es) = e.ended.summary ∷ summaries_in es

pub record Right (t : Tally) (d : Done World Answered) : Type 0 where
  -- a close that is carried out hands out counts that balance; all else hands out zeros
  pub balanced : All Balanced d.answer.reply.summaries
  -- what is returned out is of the intervals that it ended
  pub summaries_are : d.carried ≡ true → d.answer.reply.summaries ≡ summaries_in d.answer.facts.ended
  pub intervals : All (ClosedInterval t d.answer.reply) d.answer.facts.ended
  -- each of these intervals leaves the tables that the waiting commands make of them
  pub tables_run : All (λ e. TablesRun t d.next.buffers.tables) d.answer.facts.ended
  pub listings : All (ListedPart t d.answer.reply) d.answer.facts.listings
  -- nothing goes unsaid: what is carried out, ends no interval and writes no listing has no output
  pub all_said : d.carried ≡ true → d.answer.facts.ended ≡ [] → d.answer.facts.listings ≡ []
      → d.answer.reply.out ≡ []
  -- the events that are taken are returned out or stay in the open interval
  pub events : length (events_of t) + d.answer.facts.takes ≡ taken_in d.answer.reply.summaries + d.next.state.interval.taken

-- ---- the claim

abbrev pub takes : Answered → ℕ
takes r = r.facts.takes

abbrev pub returned : Answered → ℕ
returned r = taken_in r.reply.summaries

pub record Demand3 (c : Capacity) (tables staging bitmap : List ℕ) (cs : List SingleCall) : Type 0 where
  -- every answer, with echo, output and what is lent besides the own buffers, is the tally's; so are the state and the buffers at the
  -- end; at every moment limits, balances and samples; no refused call changes anything; every closed interval is right
  pub followed : Followed processor_step tally_step view Moment Right (fresh_tally c tables staging bitmap) (fresh_world c tables staging bitmap) cs
  -- event calls answered 0 are those of the closes and of the open interval
  pub events : total (map takes (replies processor_step (fresh_world c tables staging bitmap) cs))
      ≡ total (map returned (replies processor_step (fresh_world c tables staging bitmap) cs))
      + (after processor_step (fresh_world c tables staging bitmap) cs).state.interval.taken

-- for a fresh processor of every capacity, every initial tables, staging and bitmap, and every lawful list of calls
abbrev pub demand3 : Type 0
demand3 =
    (c : Capacity) (tables staging bitmap : List ℕ) (cs : List SingleCall) → Lawful processor_step (fresh_world c tables staging bitmap) cs
    → Demand3 c tables staging bitmap cs
