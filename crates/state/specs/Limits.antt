-- The limits of a state, part by part (document 01, "One event": "State limits", and cause 1). Assumes nothing.
use Rattle.std.specs.Prelude.{Bool, ◌&&◌}
use Rattle.capacity.specs.Capacity.{numbers_of}
use Rattle.settings.specs.Settings.{settings_within}
use Rattle.load.specs.Staging.{addresses_within}
use Rattle.command.specs.declared.ranges.Ranges.{Ranges}
use Rattle.command_list.specs.CommandList.{command_list_within}
use Rattle.state.specs.declared.State.{State}
use Rattle.state.specs.Interval.{interval_within}

-- the ranges of commands: the present reach, and LIMHI's largest value, "0 to 2c0", by the capacity
abbrev pub ranges_of : State → Ranges
ranges_of s = record { reach = s.staging.reach; limhi = (numbers_of s.capacity).limhi }

-- the interval; "settings in the ranges below"; accepted and waiting commands, a load "lawful at the present reach"; the addresses.
-- Slots and LIMHI go by the capacity. Every frame number of 16 bits is right
unfoldable pub within_limits : State → Bool
within_limits s =
    interval_within (numbers_of s.capacity).slots s.interval
    && settings_within (ranges_of s).limhi s.settings
    && command_list_within s.commands (ranges_of s)
    && addresses_within s.staging
