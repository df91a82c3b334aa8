-- The interval, one part of the state: its events and its second readings (document 01, "One event"). Assumes nothing.
use Rattle.std.specs.Prelude.{ℕ, ◌+◌, ◌*◌, Bool, ◌&&◌, List, leb}
use Rattle.wire.specs.Bytes.{zeros}
use Rattle.wire.specs.Lists.{all, at_most}
use Rattle.boxes.specs.Boxes.{box_count, beacon_count, total_count}
use Rattle.counts.specs.declared.Counts.{Counts}
use Rattle.samples.specs.declared.selection.SampleUse.{SampleUse}
use Rattle.state.specs.declared.interval.Interval.{Interval}

-- "An interval takes up to 1,000,000 events and 60 second readings"
abbrev pub most_events : ℕ
most_events = 1000000

abbrev pub most_readings : ℕ
most_readings = 60

-- ---- an interval that begins

abbrev pub no_counts : Counts
no_counts = record { boxes = zeros box_count; beacons = zeros beacon_count }

-- "Fresh: .. counts and slots 0"
abbrev pub fresh_interval : Interval
fresh_interval = record {
  taken = 0;
  counts = no_counts;
  samples = record { slots = record { used = 0; replaced = 0 }; eligible = 0 };
  readings = 0;
  totals = zeros total_count;
}

-- ---- what changes it

-- one event more, with the counts and the use of the slots that it leaves
abbrev pub with_event : Interval → Counts → SampleUse → Interval
with_event i counts samples =
    record { taken = i.taken + 1; counts = counts; samples = samples; readings = i.readings; totals = i.totals }

-- one reading more, with the totals that it leaves
abbrev pub with_reading : Interval → (totals : List ℕ) → Interval
with_reading i totals = record { taken = i.taken; counts = i.counts; samples = i.samples; readings = i.readings + 1; totals = totals }

-- ---- its limits

-- "taken 1,000,000; every box, beacon .. count at most taken"
abbrev pub counts_within : (taken : ℕ) → Counts → Bool
counts_within taken c = leb taken most_events && all (at_most taken) c.boxes && all (at_most taken) c.beacons

-- ".. and other event count at most taken; 704 slots used": as many as there are
abbrev pub samples_within : (slots taken : ℕ) → SampleUse → Bool
samples_within slots taken u =
    leb u.eligible taken && leb u.slots.used taken && leb u.slots.used slots && leb u.slots.replaced taken

-- "readings 60; each total 65,535 × readings"
abbrev pub readings_within : (readings : ℕ) (totals : List ℕ) → Bool
readings_within readings totals = leb readings most_readings && all (at_most (65535 * readings)) totals

-- with this many slots
unfoldable pub interval_within : (slots : ℕ) → Interval → Bool
interval_within slots i =
    counts_within i.taken i.counts && samples_within slots i.taken i.samples && readings_within i.readings i.totals
