-- The state and the slots that the tally stands for, after each thing that a call does to it. Assumes nothing.
use Rattle.std.proofs.Common.{◌≡◌, refl, sym, ap, ◌∙◌, true, ◌&&◌, not, List, [], ◌∷◌, ◌++◌, map, ℕ, ◌+◌, ◌%◌, ◌<◌, arith, length}
use Rattle.std.proofs.Common.{get_or, length-append, Option}
use Rattle.wire.specs.Bytes.{total, zeros}
use Rattle.wire.specs.Lists.{keep}
use Rattle.wire.specs.Pieces.{table}
use Rattle.wire.proofs.Pieces.{table_at, same_table, table_zeros}
use Rattle.boxes.specs.Boxes.{box_count, beacon_count, total_count}
use Rattle.settings.specs.declared.Settings.{Settings}
use Rattle.sort.specs.declared.event.Event.{Event}
use Rattle.samples.specs.Selection.{sorted, slots_taken}
use Rattle.samples.proofs.SelectionLaws.{one_more_slots, one_more_use, no_slots, no_use}
use Rattle.command.specs.declared.command.Line.{Line}
use Rattle.command.specs.declared.command.Line.TheVariants.{Empty, Wrong, Change, LoadZero, LoadAt, Ask, Commit}
use Rattle.command.specs.declared.command.Command.{Command}
use Rattle.command.specs.Asked.{traits_of}
use Rattle.command_list.specs.declared.CommandList.{CommandList}
use Rattle.command_list.specs.CommandList.{fresh_command_list, command_list_with, with_accepted, left_waiting}
use Rattle.command_list.specs.Run.{settings_after_all, addresses_after_all}
use Rattle.command_list.proofs.CommandListLaws.{room, waiting_with, accepted_with}
use Rattle.state.specs.declared.State.{State}
use Rattle.state.specs.Interval.{no_counts, fresh_interval, with_reading}
use Rattle.state.specs.State.{with_command_list, with_staging}
use Rattle.take_event.specs.Event.{interval_taken}
use Rattle.take_reading.specs.Reading.{added_totals}
use Rattle.take_line.specs.Line.{addresses_after_line, state_after_line}
use Rattle.end_interval.specs.End.{state_ended}
use Rattle.tally.specs.Events.{in_box, in_beacon, counts_by}
use Rattle.tally.specs.Tally.{Tally, events_of, slots_for, selected, totals_by, totals_of, counts_of, full_for, event_joined, read, line_taken, ended, empty_interval}
use Rattle.tally.specs.View.{view_interval, view_state}
use Rattle.tally.proofs.CountLaws.{counts_snoc}
use Rattle.tally.proofs.Invariant.{Sizes, Inv, limhi_most, commands_most}

-- ---- one event more

module _ {z : Sizes} (t : Tally) (v : Inv z t) (e : Event) where
  pub event_slots : slots_taken (slots_for t) (selected t).samples t.settings (selected t).slots e (sorted t.settings t.tables e)
      ≡ (selected (event_joined t e)).slots
  event_slots = one_more_slots (slots_for t) t.settings t.tables (limhi_most t v) (events_of t) e

  pub event_interval : interval_taken (slots_for t) (view_interval t) t.settings (sorted t.settings t.tables e) ≡ view_interval (event_joined t e)
  unfolding interval_taken
  event_interval = λ i. record {
    taken = sym (length-append (events_of t) (e ∷ [])) i;
    counts = counts_snoc t.settings t.tables (events_of t) e i;
    samples = one_more_use (slots_for t) t.settings t.tables (limhi_most t v) (events_of t) e i;
    readings = length t.interval.readings;
    totals = totals_of t;
  }

-- ---- one reading more

total_snoc : (f : List ℕ → ℕ) (l : List (List ℕ)) (r : List ℕ) → total (map f l) + f r ≡ total (map f (l ++ r ∷ []))
unfolding total
total_snoc f [] r = omega arith
total_snoc f (x ∷ xs) r = omega (arith, total_snoc f xs r)

pub totals_snoc : (rs : List (List ℕ)) (counts : List ℕ) → added_totals (totals_by rs) counts ≡ totals_by (rs ++ counts ∷ [])
unfolding totals_by
totals_snoc rs counts = same_table total_count _ _ sums
  where
    sums : (k : ℕ) → k < total_count
        → get_or (table total_count (λ k. total (map (λ r. get_or r k 0) rs))) k 0 + get_or counts k 0 ≡ total (map (λ r. get_or r k 0) (rs ++ counts ∷ []))
    sums k h =
        ap (λ (n : ℕ). n + get_or counts k 0) (table_at (λ k. total (map (λ r. get_or r k 0) rs)) total_count k h)
        ∙ total_snoc (λ r. get_or r k 0) rs counts

pub reading_interval : (t : Tally) (counts : List ℕ)
    → with_reading (view_interval t) (added_totals (totals_of t) counts) ≡ view_interval (read t counts)
reading_interval t counts = λ i. record {
  taken = length (events_of t);
  counts = counts_of t;
  samples = (selected t).samples;
  readings = sym (length-append t.interval.readings (counts ∷ [])) i;
  totals = totals_snoc t.interval.readings counts i;
}

-- ---- an accepted line

-- one more command accepted, with what its line leaves waiting, where there is room
accepted_state : {z : Sizes} (t : Tally) → Inv z t → (x : Option Command) → not (full_for t) ≡ true
    → with_accepted (command_list_with t.commands.accepted t.commands.waiting) x ≡ command_list_with (t.commands.accepted + 1) (t.commands.waiting ++ left_waiting x)
accepted_state t v x h =
    let w = commands_most t v in
    let r = room (command_list_with t.commands.accepted t.commands.waiting) h in
    accepted_with t.commands.accepted t.commands.waiting x (omega (arith, w.waiters_most))

-- the state with these commands, and the addresses that the line leaves
abbrev put : Tally → Line → CommandList → State
put t l o = with_staging (with_command_list (view_state t) o) (addresses_after_line t.addresses l)

pub line_state : {z : Sizes} (t : Tally) → Inv z t → (l : Line) → not ((traits_of l).command && full_for t) ≡ true
    → state_after_line (view_state t) l ≡ view_state (line_taken t l)
unfolding state_after_line
line_state t v Empty h = refl
line_state t v Wrong h = refl
line_state t v (Change k n) h = ap (put t (Change k n)) (accepted_state t v (traits_of (Change k n)).leaves h)
line_state t v LoadZero h = ap (put t LoadZero) (accepted_state t v (traits_of LoadZero).leaves h)
line_state t v (LoadAt a) h = ap (put t (LoadAt a)) (accepted_state t v (traits_of (LoadAt a)).leaves h)
line_state t v Ask h = ap (put t Ask) (accepted_state t v (traits_of Ask).leaves h)
line_state t v (Commit a y n) h = ap (put t (Commit a y n)) (accepted_state t v (traits_of (Commit a y n)).leaves h)

-- ---- an interval without events

module _ (s : Settings) (tables : List ℕ) where
  no_counts_lem : no_counts ≡ counts_by s tables []
  unfolding counts_by in_box in_beacon keep
  no_counts_lem = λ i. record { boxes = sym (table_zeros box_count) i; beacons = sym (table_zeros beacon_count) i }

no_totals : zeros total_count ≡ totals_by []
unfolding totals_by total table
no_totals = refl

-- a tally whose interval has no events and no readings
pub no_interval : (t : Tally) → t.interval ≡ empty_interval → fresh_interval ≡ view_interval t
no_interval t e = rw e (λ i. record {
  taken = 0;
  counts = no_counts_lem t.settings t.tables i;
  samples = no_use (slots_for t) t.settings t.tables i;
  readings = 0;
  totals = no_totals i;
})

pub empty_slots : (t : Tally) → t.interval ≡ empty_interval → zeros (slots_for t) ≡ (selected t).slots
empty_slots t e = rw e (no_slots (slots_for t) t.settings t.tables)

pub no_commands_lem : fresh_command_list ≡ command_list_with 0 []
no_commands_lem = refl

-- ---- a close

pub ended_state : (t : Tally) → state_ended (view_state t) ≡ view_state (ended t)
unfolding state_ended
ended_state t =
    let w = waiting_with t.commands.accepted t.commands.waiting in
    λ i. record {
      frame = frames i;
      interval = no_interval (ended t) refl i;
      settings = settings_after_all t.settings (w i);
      commands = no_commands_lem i;
      staging = addresses_after_all t.addresses (w i);
      capacity = t.capacity;
    }
  where
    frames : (t.closes % 65536 + 1) % 65536 ≡ (t.closes + 1) % 65536
    frames = omega arith
