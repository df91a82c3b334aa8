-- One command line (document 01, "Commands and loads" and causes 5, 6 and 7; document 02, Point 4): whether its command is accepted, and
-- what it makes of the state and the echo then. Assumes nothing.
use Rattle.std.specs.Prelude.{Bool, ◌&&◌, not, cond, List, [], ◌∷◌, ℕ, eqb, leb, length}
use Rattle.causes.specs.Causes as cause
use Rattle.causes.specs.Checks.{Check, number_by}
use Rattle.load.specs.declared.staging.Addresses.{Addresses}
use Rattle.load.specs.Bitmap.{bitmap_bytes, none_bad, staged_sum}
use Rattle.load.specs.Staging.{staging_bytes, fresh_addresses}
use Rattle.command.specs.declared.command.Line.{Line}
use Rattle.command.specs.declared.command.Line.TheVariants.{Empty, Wrong, Change, LoadZero, LoadAt, Ask, Commit}
use Rattle.echo.specs.Echo.{echo_bytes, accepted_echo, prompt_echo, refused_echo}
use Rattle.command.specs.declared.traits.Traits.{Traits}
use Rattle.command.specs.Asked.{traits_of, sum_agrees}
use Rattle.command.specs.Grammar.{bytes_ok, line_of}
use Rattle.command_list.specs.declared.CommandList.{CommandList}
use Rattle.command_list.specs.CommandList.{load_waits, commands_full, with_accepted}
use Rattle.state.specs.declared.State.{State}
use Rattle.state.specs.State.{with_command_list, with_staging}
use Rattle.state.specs.Limits.{ranges_of, within_limits}

-- no "lent buffer .. of other length", from the lengths of staging, bitmap and echo
abbrev pub line_lent : (staging bitmap echo : ℕ) → Bool
line_lent staging bitmap echo = eqb staging staging_bytes && eqb bitmap bitmap_bytes && eqb echo echo_bytes

-- what is lent, and the state, are sound; "line over 80 or other byte"; then those of the command
abbrev pub line_checks : (sound : Bool) (line : List ℕ) (command : List Check) → List Check
line_checks sound line command = (sound, cause.buffer_or_state) ∷ (bytes_ok line, cause.line_bytes) ∷ command

-- "unknown keyword, wrong argument"; "a load waits (load, load 0, loadat ..)"; "32 commands this frame". An empty line is none of
-- these: it "answers 0 and is no command, also after 32". What is judged behind these
abbrev pub own_checks : (waits full : Bool) → Traits → (behind : List Check) → List Check
own_checks waits full t behind =
    (not t.wrong, cause.wrong_line)
    ∷ (not (t.staging && waits), cause.load_waiting)
    ∷ (not (t.command && full), cause.command_limit)
    ∷ behind

-- "15 when a staged byte is bad, after 7; 16 when commit's sum differs from that of the bytes lent below the reach, after 15": by whether
-- no byte below the reach is bad, and by their sum
abbrev pub staged_checks : (good : Bool) (sum : ℕ) → Traits → List Check
staged_checks good sum t = (not (t.load && not good), cause.bad_staged) ∷ (sum_agrees t.sum sum, cause.sum_differs) ∷ []

abbrev pub command_checks : (waits full good : Bool) (sum : ℕ) → Line → List Check
command_checks waits full good sum l = own_checks waits full (traits_of l) (staged_checks good sum (traits_of l))

-- "Carried out when accepted, it returns those bytes' sum": an ask. Any other line has none
abbrev pub sum_returned : Line → (sum : ℕ) → ℕ
sum_returned l sum = cond (traits_of l).ask sum 0

-- "Waiting until close: ..": a command joins those that wait; one that is carried out when accepted is counted alone. An ask "changes
-- only echo and sequence"
abbrev pub command_list_after : CommandList → Traits → CommandList
command_list_after o t = cond t.command (with_accepted o t.leaves) o

-- "Carried out when accepted: load 0 .., loadat a"; "load 0 sets both to 0"
abbrev pub addresses_after_line : Addresses → Line → Addresses
addresses_after_line a Empty = a
addresses_after_line a Wrong = a
addresses_after_line a (Change k n) = a
addresses_after_line a LoadZero = fresh_addresses
addresses_after_line a (LoadAt x) = record { next = x; reach = a.reach }
addresses_after_line a Ask = a
addresses_after_line a (Commit x y n) = a

unfoldable pub state_after_line : State → Line → State
state_after_line s l = with_staging (with_command_list s (command_list_after s.commands (traits_of l))) (addresses_after_line s.staging l)

-- "low frame byte and sequence number"; "The sequence counts accepted commands from 0 each frame"; "Empty line: "SIT> ""
abbrev pub line_echo : (frame accepted : ℕ) (line : List ℕ) → List ℕ
line_echo frame accepted line = cond (eqb (length line) 0) prompt_echo (accepted_echo frame accepted line)

-- 5, 6 and 7 echo the error, and of 15 and 16 "both echo as 5"; 1 and 4 leave the echo as it was
abbrev pub echo_by : (number : ℕ) (accepted refused before : List ℕ) → List ℕ
echo_by number accepted refused before = cond (eqb number cause.carried_out) accepted (cond (leb cause.wrong_line number) refused before)

-- a line's number, 0 where it was accepted, the state, and the sum that an ask returns; 0 for every other line
pub record LineAnswer : Type 0 where
  pub number : ℕ
  pub state : State
  pub sum : ℕ

-- what the call hands back and leaves in the lent echo; staging and bitmap are only read
pub record LineDone : Type 0 where
  pub answer : LineAnswer
  pub echo : List ℕ

abbrev pub line_by : (number : ℕ) → State → (line staging echo : List ℕ) → LineDone
line_by number s line staging echo =
    let l = line_of line (ranges_of s) in
    let accepted = eqb number cause.carried_out in
    record {
      answer = record {
        number = number;
        state = cond accepted (state_after_line s l) s;
        sum = cond accepted (sum_returned l (staged_sum staging s.staging.reach)) 0;
      };
      echo = echo_by number (line_echo s.frame s.commands.accepted line) (refused_echo line) echo;
    }

-- the checks of its command, from the state and what is lent
abbrev pub state_checks : State → (line staging bitmap : List ℕ) → List Check
state_checks s line staging bitmap =
    command_checks (load_waits s.commands) (commands_full s.commands) (none_bad bitmap s.staging.reach)
    (staged_sum staging s.staging.reach) (line_of line (ranges_of s))

unfoldable pub line_number : State → (line staging bitmap : List ℕ) (echo : ℕ) → ℕ
line_number s line staging bitmap echo =
    number_by (line_checks (within_limits s && line_lent (length staging) (length bitmap) echo) line (state_checks s line staging bitmap))
