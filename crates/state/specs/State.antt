-- The processor's state in its parts: a fresh one, and a state with another part (document 01, "One event": "Fresh"). Assumes nothing.
use Rattle.capacity.specs.declared.Capacity.{Capacity}
use Rattle.settings.specs.Settings.{fresh_settings}
use Rattle.load.specs.declared.staging.Addresses.{Addresses}
use Rattle.load.specs.Staging.{fresh_addresses}
use Rattle.command_list.specs.declared.CommandList.{CommandList}
use Rattle.command_list.specs.CommandList.{fresh_command_list}
use Rattle.state.specs.declared.State.{State}
use Rattle.state.specs.declared.interval.Interval.{Interval}
use Rattle.state.specs.Interval.{fresh_interval}

-- "Fresh: frame 0, counts and slots 0, staging addresses 0, LIMHI 500, all other settings 0"
unfoldable pub fresh_state : Capacity → State
fresh_state capacity = record {
  frame = 0;
  interval = fresh_interval;
  settings = fresh_settings;
  commands = fresh_command_list;
  staging = fresh_addresses;
  capacity = capacity;
}

-- the state with another interval, another command list, other staging addresses
abbrev pub with_interval : State → Interval → State
with_interval s i =
    record { frame = s.frame; interval = i; settings = s.settings; commands = s.commands; staging = s.staging; capacity = s.capacity }

abbrev pub with_command_list : State → CommandList → State
with_command_list s o =
    record { frame = s.frame; interval = s.interval; settings = s.settings; commands = o; staging = s.staging; capacity = s.capacity }

abbrev pub with_staging : State → Addresses → State
with_staging s a =
    record { frame = s.frame; interval = s.interval; settings = s.settings; commands = s.commands; staging = a; capacity = s.capacity }
