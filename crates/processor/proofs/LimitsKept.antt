-- A call from any state within its limits returns a state within its limits. Assumes nothing.
use Rattle.std.proofs.Common.{◌≡◌, refl, true, List, ℕ, eqb-true, eqb, length}
use Rattle.wire.specs.Lists.{EachBelow}
use Rattle.wire.proofs.Lists.{and_right, choice}
use Rattle.capacity.specs.declared.Capacity.{Capacity}
use Rattle.capacity.specs.declared.Capacity.TheVariants.{Slots704}
use Rattle.sort.specs.declared.event.Event.{Event}
use Rattle.sort.specs.Sorting.{outcome_of}
use Rattle.sort.proofs.EventLaws.{outcome_names}
use Rattle.load.specs.Bitmap.{none_bad, staged_sum}
use Rattle.load.specs.Staging.{formed, fits}
use Rattle.load.proofs.StagingLaws.{addresses_after_lem, fresh_addresses_lem}
use Rattle.command_list.specs.CommandList.{most_commands}
use Rattle.command_list.proofs.CommandListLaws.{fresh_within}
use Rattle.state.specs.declared.State.{State}
use Rattle.state.specs.State.{fresh_state}
use Rattle.state.specs.Limits.{within_limits}
use Rattle.state.proofs.LimitLaws.{state_limits, state_whole, interval_kept, staging_kept}
use Rattle.take_event.specs.Event.{event_number}
use Rattle.take_event.proofs.EventLaws.{event_taken, taken_within}
use Rattle.take_reading.specs.Reading.{reading_number}
use Rattle.take_reading.proofs.ReadingLaws.{reading_taken, read_within}
use Rattle.take_line.specs.Line.{line_number}
use Rattle.take_line.proofs.LineLimits.{line_within}
use Rattle.take_package.specs.Package.{is_staged, package_call_number}
use Rattle.take_package.proofs.PackageLaws.{package_staged}
use Rattle.end_interval.proofs.EndLaws.{fresh_interval_lem, ended_within}
use Rattle.processor.specs.Event.{event_done}
use Rattle.processor.specs.Reading.{reading_done}
use Rattle.processor.specs.Line.{line_done}
use Rattle.processor.specs.Package.{package_done}
use Rattle.processor.specs.Close.{close_number, close_done}
use Rattle.processor.proofs.CallLaws.{line_accepted}

pub fresh_kept : (c : Capacity) → within_limits (fresh_state c) ≡ true
unfolding fresh_state
fresh_kept Slots704 =
    state_whole _ record { interval = fresh_interval_lem _; settings = refl; commands = fresh_within _; staging = fresh_addresses_lem }

module _ (s : State) (h : within_limits s ≡ true) where
  pub event_kept : (tables slots : List ℕ) (e : Event) → within_limits (event_done s tables slots e).answer.state ≡ true
  unfolding event_done
  event_kept tables slots e =
      let o = outcome_of s.settings tables e in
      choice (λ x. within_limits x ≡ true) (eqb (event_number s (length tables) (length slots) e) 0) _ _
      (λ k.
      let t = event_taken s (length tables) (length slots) e (eqb-true _ 0 k) in
      interval_kept s _ h
      (taken_within _ s.interval s.settings o (outcome_names s.settings tables e) t.room (state_limits s h).interval))
      (λ k. h)

  pub reading_kept : (counts : List ℕ) → EachBelow 65536 counts → within_limits (reading_done s counts).state ≡ true
  unfolding reading_done
  reading_kept counts f =
      choice (λ x. within_limits x ≡ true) (eqb (reading_number s) 0) _ _
      (λ k. interval_kept s _ h (read_within _ s.interval counts f (reading_taken s (eqb-true _ 0 k)).1 (state_limits s h).interval))
      (λ k. h)

  -- a state has 32 places for commands, as its type says
  pub line_kept : (bytes staging bitmap echo : List ℕ) → length s.commands.waiting ≡ most_commands
      → within_limits (line_done s bytes staging bitmap echo).answer.state ≡ true
  unfolding line_done
  line_kept bytes staging bitmap echo n =
      choice (λ x. within_limits x ≡ true) (eqb (line_number s bytes staging bitmap (length echo)) 0) _ _
      (λ k.
      line_within s bytes _ (none_bad bitmap s.staging.reach) (staged_sum staging s.staging.reach) refl n
      (line_accepted s bytes staging bitmap (length echo) (eqb-true _ 0 k)).accepts h)
      (λ k. h)

  pub package_kept : (bytes staging bitmap echo : List ℕ) → within_limits (package_done s bytes staging bitmap echo).answer.state ≡ true
  unfolding package_done
  package_kept bytes staging bitmap echo =
      choice (λ x. within_limits x ≡ true) (is_staged (package_call_number s bytes (length staging) (length bitmap) (length echo))) _ _
      (λ k.
      let p = package_staged s bytes (length staging) (length bitmap) (length echo) k in
      let f = and_right (formed bytes) (fits bytes s.staging.next) p.is_placeable in
      staging_kept s _ h p.none_waits (addresses_after_lem s.staging bytes (state_limits s h).staging f))
      (λ k. h)

  pub close_kept : (time : ℕ) (tables staging slots out : List ℕ)
      → within_limits (close_done s time tables staging slots out).answer.state ≡ true
  unfolding close_done
  close_kept time tables staging slots out =
      choice (λ x. within_limits x ≡ true) (eqb (close_number s (length tables) (length staging) slots (length out)) 0) _ _
      (λ k. ended_within s h)
      (λ k. h)
