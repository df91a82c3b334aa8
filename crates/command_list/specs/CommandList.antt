-- The accepted and the waiting commands (document 01, "One event": "State limits", "Commands and loads", and causes 1, 6 and 7).
-- Assumes nothing.
use Rattle.std.specs.Prelude.{ℕ, ◌+◌, Bool, ◌&&◌, List, [], ◌∷◌, leb, length, take, set, replicate}
use Rattle.wire.specs.Lists.{all, keep}
use Rattle.wire.specs.Pieces.{filled_up}
use Rattle.command.specs.declared.command.Command.{Command}
use Rattle.command.specs.declared.command.Command.TheVariants.{Set}
use Rattle.command.specs.declared.command.Setting.TheVariants.{Limhi}
use Rattle.command.specs.declared.ranges.Ranges.{Ranges}
use Rattle.std.specs.Prelude.{Option, Some, None}
use Rattle.command.specs.Asked.{is_load}
use Rattle.command.specs.Grammar.{command_ok}
use Rattle.command_list.specs.declared.CommandList.{CommandList}
use Rattle.command_list.specs.declared.Waiting.{Waiting}

-- "accepted commands 32"; "The sequence counts accepted commands from 0 each frame; 32 at most"
abbrev pub most_commands : ℕ
most_commands = 32

-- what stands beyond the waiting commands
abbrev pub filler : Waiting
filler = record { command = Set Limhi 0 }

-- none accepted, and none waiting
abbrev pub fresh_command_list : CommandList
fresh_command_list = record { accepted = 0; waiting = replicate most_commands filler; waiters = 0 }

-- the command list where this many were accepted and these wait
abbrev pub command_list_with : (accepted : ℕ) → List Waiting → CommandList
command_list_with accepted ws = record { accepted = accepted; waiting = filled_up most_commands filler ws; waiters = length ws }

-- those that wait, in order
abbrev pub waiting_of : CommandList → List Waiting
waiting_of o = take o.waiters o.waiting

-- how many of the commands are loads
unfoldable pub loads_in : List Waiting → ℕ
loads_in ws = length (keep (λ w. is_load w.command) ws)

-- some line gives the command in these ranges
abbrev pub given_at : Ranges → Waiting → Bool
given_at ranges w = command_ok w.command ranges

-- "a load waits"
abbrev pub load_waits : CommandList → Bool
load_waits o = leb 1 (loads_in (waiting_of o))

-- "32 commands this frame"
abbrev pub commands_full : CommandList → Bool
commands_full o = leb most_commands o.accepted

-- ---- limits

-- no "waiting command that no line could give"; "at most one load waiting, lawful at the present reach"
abbrev pub waiting_within : List Waiting → Ranges → Bool
waiting_within ws ranges = all (given_at ranges) ws && leb (loads_in ws) 1

-- "accepted commands 32, waiting ones no more"
unfoldable pub command_list_within : CommandList → Ranges → Bool
command_list_within o ranges = leb o.accepted most_commands && leb o.waiters o.accepted && waiting_within (waiting_of o) ranges

-- ---- one more

-- a command that waits until close joins the others, and is counted
abbrev pub pushed : CommandList → Command → CommandList
pushed o c =
    record { accepted = o.accepted + 1; waiting = set o.waiting o.waiters (record { command = c }); waiters = o.waiters + 1 }

-- a command that is carried out when accepted is counted only
abbrev pub counted : CommandList → CommandList
counted o = record { accepted = o.accepted + 1; waiting = o.waiting; waiters = o.waiters }

-- one more accepted, by what its line leaves waiting
abbrev pub with_accepted : CommandList → Option Command → CommandList
with_accepted o None = counted o
with_accepted o (Some c) = pushed o c

-- what a line leaves waiting, as a list
abbrev pub left_waiting : Option Command → List Waiting
left_waiting None = []
left_waiting (Some c) = record { command = c } ∷ []
