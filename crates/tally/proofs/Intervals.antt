-- A close that is carried out returns the tally's counts, and its sample packets hold the tally's slots. Assumes nothing.
use Rattle.std.proofs.Common.{◌≡◌, refl, ℕ, arith, length}
use Rattle.wire.proofs.Pieces.{length_table}
use Rattle.boxes.specs.Boxes.{box_count, beacon_count, total_count}
use Rattle.capacity.proofs.NumberLaws.{slots_in_packets}
use Rattle.samples.proofs.Places.{selected_differ}
use Rattle.samples.specs.Samples.{filled}
use Rattle.samples.specs.Selection.{use_by}
use Rattle.samples.proofs.SelectionLaws.{filled_selected, slots_length, replaced_selected, sum_selected}
use Rattle.output.proofs.OutputLaws.{Lengths, slots_sent}
use Rattle.output.specs.Ended.{dropped_in, summary_of}
use Rattle.tally.specs.Calls.{closed_with}
use Rattle.tally.specs.Events.{counts_by}
use Rattle.tally.specs.Tally.{Tally, events_of, counts_of, slots_for, selected, totals_by, summary_for, ended_for, sent_for}
use Rattle.tally.specs.View.{view_state}
use Rattle.tally.specs.Demand3.{Samples, ClosedInterval}
use Rattle.tally.proofs.Invariant.{Sizes, Inv, limhi_most}
use Rattle.tally.proofs.SampleCounts.{summary_counted}

module _ {z : Sizes} (t : Tally) (v : Inv z t) where
  pub slots_are : length (selected t).slots ≡ slots_for t
  slots_are = slots_length (slots_for t) t.settings t.tables (limhi_most t v) (events_of t)

  pub samples_differ : Samples t (selected t).slots
  samples_differ = selected_differ (slots_for t) t.settings t.tables (events_of t) (limhi_most t v)

  -- what a close would return of the interval is the tally's
  pub summary_viewed : summary_of (view_state t) (selected t).slots ≡ summary_for t
  unfolding use_by
  summary_viewed =
      let N = slots_for t in
      let es = events_of t in
      let filled_are = filled_selected N t.settings t.tables (limhi_most t v) es in
      let replaced_are = replaced_selected N t.settings t.tables es in
      let dropped_are : dropped_in (length (selected t).eligibles) (filled (selected t).slots) (selected t).samples.slots.replaced ≡ (selected t).dropped =
      omega (arith, filled_are, replaced_are, sum_selected N t.settings t.tables es) in
      λ i. record {
        taken = length es;
        counts = counts_of t;
        filled = filled_are i;
        eligible = length (selected t).eligibles;
        replaced = replaced_are i;
        dropped = dropped_are i;
      }

  -- what packets are written from has its lengths
  pub lengths : (time : ℕ) → Lengths (ended_for t time) (sent_for t time).span
  unfolding totals_by counts_by
  lengths time = record {
    totals_are = length_table _ total_count;
    boxes_are = length_table _ box_count;
    beacons_are = length_table _ beacon_count;
    slots_enough = omega (arith, slots_are, slots_in_packets t.capacity);
  }

  pub ended_right : (time : ℕ) → ClosedInterval t (closed_with (sent_for t time)) (sent_for t time)
  ended_right time = record {
    sent_is = refl;
    out_is = refl;
    slots_are = λ i h. slots_sent (ended_for t time) (sent_for t time).span (lengths time) i h;
    samples = samples_differ;
    samples_counted = summary_counted t;
  }
