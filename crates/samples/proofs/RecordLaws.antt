-- An outcome's box is from 5 to 116; the record of an event is not zero, and has that box. Assumes nothing.
use Rattle.std.proofs.Common.{◌≡◌, true, ◌≤◌, ◌<◌, arith}
use Rattle.sample_record.specs.Record.{SampleFits, record_box}
use Rattle.sample_record.proofs.RecordLaws.{record_box_lem, record_nonzero}
use Rattle.sort.specs.declared.event.Event.{Event}
use Rattle.sort.specs.declared.sorting.Outcome.{Outcome}
use Rattle.sort.specs.declared.sorting.Outcome.TheVariants.{Discarded, OutOfBounds, InCell}
use Rattle.sort.specs.Boxes.{OutcomeNames}
use Rattle.sort.specs.Event.{in_range}
use Rattle.sort.proofs.EventLaws.{in_range_lem, channel_fits}
use Rattle.samples.specs.Samples.{box_of, sample_from, event_record}

-- an outcome's box is from 5 to 116
pub box_from : (o : Outcome) → OutcomeNames o → 5 ≤ box_of o
box_from Discarded h = omega arith
box_from (OutOfBounds gain) h = omega arith
box_from (InCell gain cell) h = omega (arith, h)

pub box_fits : (o : Outcome) → OutcomeNames o → box_of o ≤ 116
box_fits Discarded h = omega arith
box_fits (OutOfBounds gain) h = omega arith
box_fits (InCell gain cell) h = h.1

-- "no event makes zero"
pub event_nonzero : (e : Event) (o : Outcome) → OutcomeNames o → 0 < event_record e o
unfolding event_record
event_nonzero e o h = record_nonzero (sample_from e o) (omega (arith, box_from o h))

pub event_fits : (e : Event) (o : Outcome) → in_range e ≡ true → OutcomeNames o → SampleFits (sample_from e o)
event_fits e o h k = (omega (arith, in_range_lem e h), channel_fits e h, omega (arith, box_fits o k))

pub event_box : (e : Event) (o : Outcome) → in_range e ≡ true → OutcomeNames o → record_box (event_record e o) ≡ box_of o
unfolding event_record
event_box e o h k = record_box_lem (sample_from e o) (event_fits e o h k)
