-- The checks of every call stand in the order of their numbers, so the first that applies is the lowest. Assumes nothing.
use Rattle.std.proofs.Common.{refl, ◌&&◌, length}
use Rattle.causes.proofs.CheckLaws.{lowest}
use Rattle.command_list.specs.CommandList.{load_waits}
use Rattle.state.specs.Limits.{within_limits}
use Rattle.take_event.specs.Event.{event_lent, event_checks, event_number}
use Rattle.take_reading.specs.Reading.{reading_checks, reading_number}
use Rattle.take_line.specs.Line.{line_lent, line_checks, state_checks, line_number}
use Rattle.take_package.specs.Package.{package_lent, package_call_checks, package_call_number}
use Rattle.end_interval.specs.End.{endable}
use Rattle.processor.specs.Close.{out_right, close_checks, close_number}
use Rattle.processor.specs.Listing.{listing_lent, listing_checks, listing_number}
use Rattle.processor.specs.Lowest.{LowestGiven}

pub lowest_given : LowestGiven
unfolding event_number reading_number line_number package_call_number close_number listing_number
lowest_given = record {
  of_event = λ s tables slots e.
      lowest (event_checks (within_limits s && event_lent s.capacity tables slots) s.interval.taken e) refl refl;
  of_reading = λ s. lowest (reading_checks (within_limits s) s.interval.readings) refl refl;
  of_line = λ s bytes staging bitmap echo.
      lowest
      (line_checks (within_limits s && line_lent (length staging) (length bitmap) echo) bytes (state_checks s bytes staging bitmap)) refl refl;
  of_package = λ s p staging bitmap echo.
      lowest
      (package_call_checks (within_limits s && package_lent staging bitmap echo) (load_waits s.commands) p s.staging.next) refl refl;
  of_close = λ s tables staging slots out.
      lowest (close_checks (endable s tables staging slots && out_right s.capacity out)) refl refl;
  of_listing = λ s i tables out. lowest (listing_checks (within_limits s && listing_lent tables out) i) refl refl;
}
