-- The end of an interval, its packets apart (document 01, "One event" and "Commands and loads"). Assumes nothing.
use Rattle.std.specs.Prelude.{Bool, ◌&&◌, List, ℕ, ◌+◌, ◌%◌, eqb, length}
use Rattle.wire.specs.Lists.{all}
use Rattle.capacity.specs.declared.Capacity.{Capacity}
use Rattle.capacity.specs.Capacity.{numbers_of}
use Rattle.tables.specs.Tables.{table_bytes}
use Rattle.sample_record.specs.Record.{record_good}
use Rattle.load.specs.Staging.{staging_bytes}
use Rattle.command_list.specs.CommandList.{waiting_of, fresh_command_list}
use Rattle.command_list.specs.Run.{settings_after_all, tables_after_all, addresses_after_all}
use Rattle.state.specs.declared.State.{State}
use Rattle.state.specs.Interval.{no_counts, fresh_interval}
use Rattle.state.specs.Limits.{within_limits}
use Rattle.output.specs.declared.Summary.{Summary}

-- no "lent buffer .. of other length", from the lengths of tables and staging, the output apart; "at close, each slot zero or of box
-- 6 to 116"
abbrev pub end_lent : Capacity → (tables staging : ℕ) (slots : List ℕ) → Bool
end_lent c tables staging slots =
    eqb tables table_bytes && eqb staging staging_bytes && eqb (length slots) (numbers_of c).slots && all record_good slots

abbrev pub endable : State → (tables staging : ℕ) (slots : List ℕ) → Bool
endable s tables staging slots = within_limits s && end_lent s.capacity tables staging slots

-- refused, "the result's fields other than the state are zero"
abbrev pub no_summary : Summary
no_summary = record { taken = 0; counts = no_counts; filled = 0; eligible = 0; replaced = 0; dropped = 0 }

-- "then waiting commands run in order; then counts and slots become zero and the frame number rises by one modulo 65,536"
unfoldable pub state_ended : State → State
state_ended s = record {
  frame = (s.frame + 1) % 65536;
  interval = fresh_interval;
  settings = settings_after_all s.settings (waiting_of s.commands);
  commands = fresh_command_list;
  staging = addresses_after_all s.staging (waiting_of s.commands);
  capacity = s.capacity;
}

abbrev pub tables_ended : State → (tables staging : List ℕ) → List ℕ
tables_ended s tables staging = tables_after_all tables staging s.staging.reach (waiting_of s.commands)
