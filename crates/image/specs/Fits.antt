-- The states whose image loses nothing, and what is proved of them: what a state's types say (the lengths of its arrays, 16-bit values),
-- and that its numbers of the machine's size fit 32 bits. Assumes nothing.
use Rattle.std.specs.Prelude.{true, ◌≡◌, ℕ, ◌<◌, length, get_or}
use Rattle.command.specs.declared.command.Command.{Command}
use Rattle.command.specs.declared.command.Command.TheVariants.{Set, Load}
use Rattle.command_list.specs.CommandList.{filler}
use Rattle.state.specs.declared.State.{State}
use Rattle.image.specs.Image.{state_of, image_of, image_good}

abbrev pub CommandFits : Command → Type 0
CommandFits (Set k n) = n < 65536
CommandFits (Load a y) = Unit {0}

pub record StateFits (s : State) : Type 0 where
  pub boxes_are : length s.interval.counts.boxes ≡ 116
  pub beacons_are : length s.interval.counts.beacons ≡ 12
  pub totals_are : length s.interval.totals ≡ 8
  pub waiting_are : length s.commands.waiting ≡ 32
  pub used_fits : s.interval.samples.slots.used < 4294967296
  pub replaced_fits : s.interval.samples.slots.replaced < 4294967296
  pub accepted_fits : s.commands.accepted < 4294967296
  pub waiters_fit : s.commands.waiters < 4294967296
  pub commands_fit : (i : ℕ) → i < 32 → CommandFits (get_or s.commands.waiting i filler).command

-- what was saved comes back
abbrev pub Back : Type 0
Back = (s : State) → StateFits s → state_of (image_of s) ≡ s

-- and is taken for a state
abbrev pub Good : Type 0
Good = (s : State) → StateFits s → image_good (image_of s) ≡ true
