-- The processor's state and buffers, as the tally has them. Assumes nothing.
use Rattle.std.specs.Prelude.{length}
use Rattle.command_list.specs.CommandList.{command_list_with}
use Rattle.state.specs.declared.State.{State}
use Rattle.state.specs.declared.interval.Interval.{Interval}
use Rattle.tally.specs.World.{World}
use Rattle.tally.specs.Tally.{Tally, events_of, counts_of, selected, totals_of, frame_of, buffers_of}

abbrev pub view_interval : Tally → Interval
view_interval t = record {
  taken = length (events_of t);
  counts = counts_of t;
  samples = (selected t).samples;
  readings = length t.interval.readings;
  totals = totals_of t;
}

abbrev pub view_state : Tally → State
view_state t = record {
  frame = frame_of t;
  interval = view_interval t;
  settings = t.settings;
  commands = command_list_with t.commands.accepted t.commands.waiting;
  staging = t.addresses;
  capacity = t.capacity;
}

unfoldable pub view : Tally → World
view t = record { state = view_state t; buffers = buffers_of t }
