-- What a line or a command asks of a call (document 01, "Commands and loads" and causes 5, 6 and 7; document 02, Point 4). Assumes nothing.
use Rattle.std.specs.Prelude.{Bool, true, false, ℕ, eqb}
use Rattle.command.specs.declared.command.Command.{Command}
use Rattle.command.specs.declared.command.Command.TheVariants.{Set, Load}
use Rattle.command.specs.declared.command.Line.{Line}
use Rattle.command.specs.declared.command.Line.TheVariants.{Empty, Wrong, Change, LoadZero, LoadAt, Ask, Commit}
use Rattle.std.specs.Prelude.{Option, Some, None}
use Rattle.command.specs.declared.traits.Traits.{Traits}

abbrev pub is_load : Command → Bool
is_load (Set k n) = false
is_load (Load a y) = true

-- ---- a line's traits: what its checks and its effect go by
--     wrong      "unknown keyword, wrong argument"
--     command    every line but an empty one, which "is no command, also after 32", and a wrong one
--     staging    what a waiting load blocks: 6, "a load waits (load, load 0, loadat, package)"
--     load       what 15 is about, the staged bytes of a load
--     ask        "returns those bytes' sum"
--     sum        what 16 is about, the sum that the line names
--     leaves     the command that it leaves waiting until close

abbrev pub no_command : (wrong : Bool) → Traits
no_command wrong = record { wrong = wrong; command = false; staging = false; load = false; ask = false; sum = None; leaves = None }

-- "ask a y" checks "that no byte below the reach was last written by a package with a wrong sum", "commit a y sum" "is checked
-- likewise"; "while it waits 6 holds, for ask and commit too"
abbrev pub about_load : (ask : Bool) → Option ℕ → Option Command → Traits
about_load ask sum leaves = record { wrong = false; command = true; staging = true; load = true; ask = ask; sum = sum; leaves = leaves }

abbrev pub other_command : (staging : Bool) → Option Command → Traits
other_command staging leaves =
    record { wrong = false; command = true; staging = staging; load = false; ask = false; sum = None; leaves = leaves }

-- a commit "waits as load did"
abbrev pub traits_of : Line → Traits
traits_of Empty = no_command false
traits_of Wrong = no_command true
traits_of (Change k n) = other_command false (Some (Set k n))
traits_of LoadZero = other_command true None
traits_of (LoadAt a) = other_command true None
traits_of Ask = about_load true None None
traits_of (Commit a y n) = about_load false (Some n) (Some (Load a y))

-- whether the sum of the staged bytes is the one that a line names, where it names one
abbrev pub sum_agrees : Option ℕ → (sum : ℕ) → Bool
sum_agrees None sum = true
sum_agrees (Some n) sum = eqb n sum
