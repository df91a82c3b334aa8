-- What the types say of a close's values is so of the tally at every moment: each record has 32 bits.
-- Assumes nothing.
use Rattle.std.proofs.Common.{◌≡◌, true, List, [], ◌∷◌, map, ℕ, zero, suc, ◌-◌, ◌<◌, arith, length, replicate}
use Rattle.wire.specs.Lists.{All, EachBelow}
use Rattle.wire.specs.Pieces.{padded}
use Rattle.wire.proofs.BitLaws.{bit_small}
use Rattle.wire.proofs.Lists.{each_append, each_zeros}
use Rattle.wire.proofs.Pieces.{length_table}
use Rattle.settings.specs.declared.Settings.{Settings}
use Rattle.sample_record.specs.declared.Sample.{Sample}
use Rattle.sample_record.specs.Record.{SampleFits, record_of}
use Rattle.sort.specs.declared.event.Event.{Event}
use Rattle.sort.specs.Event.{in_range}
use Rattle.sort.proofs.EventLaws.{outcome_names}
use Rattle.samples.specs.Samples.{sample_from, event_record, sampled, slots_of}
use Rattle.samples.proofs.RecordLaws.{event_fits}
use Rattle.boxes.specs.Boxes.{box_count, beacon_count, total_count}
use Rattle.samples.specs.Selection.{sorted, priority, record_for, is_eligible, eligibles_by, slots_by}
use Rattle.samples.proofs.Places.{All-keep, All-sampled}
use Rattle.tally.specs.Events.{counts_by}
use Rattle.tally.specs.Tally.{Tally, events_of, slots_for, selected, totals_by, ended_for}
use Rattle.tally.proofs.Invariant.{Sizes, Inv}
use Rattle.downlink.specs.Downlink.{Typed}

-- ---- the slots

record_below : (s : Sample) → SampleFits s → record_of s < 4294967296
unfolding record_of
record_below s h =
    omega (arith, bit_small s.flg0, bit_small s.flg1, bit_small s.gain, bit_small s.error, bit_small s.priority)

module _ (s : Settings) (tables : List ℕ) where
  event_below : (e : Event) → in_range e ≡ true → record_for s tables e < 4294967296
  unfolding event_record
  event_below e r = record_below (sample_from e (sorted s tables e)) (event_fits e (sorted s tables e) r (outcome_names s tables e))

  records_below : (l : List Event) → All (λ e. in_range e ≡ true) l → EachBelow 4294967296 (map (record_for s tables) l)
  records_below [] h k = omega arith
  records_below (e ∷ es) h zero = event_below e h.0
  records_below (e ∷ es) h (suc k) = records_below es h.1 k

pub slots_below : {z : Sizes} (t : Tally) → Inv z t → EachBelow 4294967296 (selected t).slots
unfolding slots_by slots_of padded eligibles_by
slots_below t v =
    let s = t.settings in
    let N = slots_for t in
    let es = eligibles_by s t.tables (events_of t) in
    let l = sampled (priority s t.tables) N s.limhi es in
    let records = map (record_for s t.tables) l in
    each_append 4294967296 records (replicate (N - length records) 0)
    (records_below s t.tables l
    (All-sampled _ (priority s t.tables) N s.limhi es (All-keep _ (is_eligible s t.tables) (events_of t) v.range)))
    (each_zeros 4294967296 (N - length records) (omega arith))

-- ---- all of them

pub tally_typed : {z : Sizes} (t : Tally) → Inv z t → (time : ℕ) → time < 4294967296 → Typed (ended_for t time)
unfolding totals_by counts_by
tally_typed t v time ht = record {
  frame_fits = omega arith;
  time_fits = ht;
  hvstep_fits = v.sized.hvstep_fits;
  slots_fit = slots_below t v;
  totals_are = length_table _ total_count;
  boxes_are = length_table _ box_count;
  beacons_are = length_table _ beacon_count;
}
