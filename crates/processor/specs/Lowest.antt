-- The number of each call is the lowest that applies (document 01, "Causes and their numbers"). Assumes nothing.
use Rattle.std.specs.Prelude.{◌&&◌, List, ℕ, length}
use Rattle.causes.specs.Checks.{Lowest}
use Rattle.sort.specs.declared.event.Event.{Event}
use Rattle.command_list.specs.CommandList.{load_waits}
use Rattle.state.specs.declared.State.{State}
use Rattle.state.specs.Limits.{within_limits}
use Rattle.take_event.specs.Event.{event_lent, event_checks, event_number}
use Rattle.take_reading.specs.Reading.{reading_checks, reading_number}
use Rattle.take_line.specs.Line.{line_lent, line_checks, state_checks, line_number}
use Rattle.take_package.specs.Package.{package_lent, package_call_checks, package_call_number}
use Rattle.end_interval.specs.End.{endable}
use Rattle.processor.specs.Close.{out_right, close_checks, close_number}
use Rattle.processor.specs.Listing.{listing_lent, listing_checks, listing_number}

-- "the lowest number that applies is given", by each of the six calls
pub record LowestGiven : Type 0 where
  pub of_event : (s : State) (tables slots : ℕ) (e : Event)
      → Lowest (event_checks (within_limits s && event_lent s.capacity tables slots) s.interval.taken e) (event_number s tables slots e)
  pub of_reading : (s : State) → Lowest (reading_checks (within_limits s) s.interval.readings) (reading_number s)
  pub of_line : (s : State) (bytes staging bitmap : List ℕ) (echo : ℕ)
      → Lowest
      (line_checks (within_limits s && line_lent (length staging) (length bitmap) echo) bytes (state_checks s bytes staging bitmap))
      (line_number s bytes staging bitmap echo)
  pub of_package : (s : State) (p : List ℕ) (staging bitmap echo : ℕ)
      → Lowest (package_call_checks (within_limits s && package_lent staging bitmap echo) (load_waits s.commands) p s.staging.next)
      (package_call_number s p staging bitmap echo)
  pub of_close : (s : State) (tables staging : ℕ) (slots : List ℕ) (out : ℕ)
      → Lowest (close_checks (endable s tables staging slots && out_right s.capacity out)) (close_number s tables staging slots out)
  pub of_listing : (s : State) (i tables out : ℕ)
      → Lowest (listing_checks (within_limits s && listing_lent tables out) i) (listing_number s i tables out)
