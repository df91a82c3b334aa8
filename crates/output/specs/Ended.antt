-- What an ended interval leaves: what a close returns of it, and what its packets are written from (document 01, "One event" and
-- "Packets"; document 02, Point 7). Assumes nothing.
use Rattle.std.specs.Prelude.{List, ℕ, ◌-◌}
use Rattle.settings.specs.declared.Settings.{Settings}
use Rattle.samples.specs.Samples.{filled}
use Rattle.packet.specs.TableSum.{table_sum}
use Rattle.state.specs.declared.State.{State}
use Rattle.output.specs.declared.Summary.{Summary}

-- "Eligible = filled + replaced + dropped" (document 02, Point 7), told of a state; 0 where one that was handed in has fewer eligible
-- events than the other two together
abbrev pub dropped_in : (eligible filled replaced : ℕ) → ℕ
dropped_in eligible filled replaced = eligible - filled - replaced

-- "it returns the taken count, 116 boxes, 12 beacons and filled slots"; "Close returns them": eligible, replaced and dropped events
abbrev pub summary_of : State → (slots : List ℕ) → Summary
summary_of s slots = record {
  taken = s.interval.taken;
  counts = s.interval.counts;
  filled = filled slots;
  eligible = s.interval.samples.eligible;
  replaced = s.interval.samples.slots.replaced;
  dropped = dropped_in s.interval.samples.eligible (filled slots) s.interval.samples.slots.replaced;
}

-- "from the ending interval's settings and tables": of the tables, their sum
pub record Ended : Type 0 where
  pub frame : ℕ
  pub time : ℕ
  pub totals : List ℕ
  pub summary : Summary
  pub settings : Settings
  pub sum : ℕ
  pub slots : List ℕ

-- the interval of a state, ended at this time with these tables and slots
abbrev pub ended_in : State → (time : ℕ) (tables slots : List ℕ) → Ended
ended_in s time tables slots = record {
  frame = s.frame;
  time = time;
  totals = s.interval.totals;
  summary = summary_of s slots;
  settings = s.settings;
  sum = table_sum tables;
  slots = slots;
}
