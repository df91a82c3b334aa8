-- An accepted line leaves a state within its limits. Assumes nothing.
use Rattle.std.proofs.Common.{◌≡◌, ap, Bool, true, not, List, ℕ, length}
use Rattle.causes.specs.Checks.{number_by}
use Rattle.load.specs.declared.staging.Addresses.{Addresses}
use Rattle.load.specs.Staging.{addresses_within}
use Rattle.load.proofs.StagingLaws.{addresses_are, addresses_whole, fresh_addresses_lem}
use Rattle.command.specs.declared.command.Command.TheVariants.{Set, Load}
use Rattle.command.specs.declared.command.Line.{Line}
use Rattle.command.specs.declared.command.Line.TheVariants.{Empty, Wrong, Change, LoadZero, LoadAt, Ask, Commit}
use Rattle.command.specs.Asked.{traits_of}
use Rattle.command.specs.Grammar.{line_of}
use Rattle.command.proofs.CommandLaws.{waits_ok, loadat_within}
use Rattle.command_list.specs.CommandList.{most_commands, load_waits, commands_full, counted}
use Rattle.command_list.proofs.CommandListLaws.{pushed_within, counted_within}
use Rattle.state.specs.declared.State.{State}
use Rattle.state.specs.State.{with_command_list, with_staging}
use Rattle.state.specs.Limits.{ranges_of, within_limits}
use Rattle.state.proofs.LimitLaws.{state_limits, staging_kept, commands_kept}
use Rattle.take_line.specs.Line.{command_checks, state_after_line}
use Rattle.take_line.proofs.LineLaws.{command_accepts}

-- one more counted, and nothing else
counted_kept : (s : State) → within_limits s ≡ true → not (commands_full s.commands) ≡ true
    → within_limits (with_command_list s (counted s.commands)) ≡ true
counted_kept s h f = commands_kept s (counted s.commands) h (counted_within s.commands (ranges_of s) f (state_limits s h).commands)

addressed_kept : (s : State) (a : Addresses) → within_limits s ≡ true → not (load_waits s.commands) ≡ true
    → not (commands_full s.commands) ≡ true
    → addresses_within a ≡ true → within_limits (with_staging (with_command_list s (counted s.commands)) a) ≡ true
addressed_kept s a h n f k = staging_kept (with_command_list s (counted s.commands)) a (counted_kept s h f) n k

-- a state has 32 places for commands, as its type says
pub line_within : (s : State) (bytes : List ℕ) (l : Line) (good : Bool) (sum : ℕ) → line_of bytes (ranges_of s) ≡ l
    → length s.commands.waiting ≡ most_commands
    → number_by (command_checks (load_waits s.commands) (commands_full s.commands) good sum l) ≡ 0 → within_limits s ≡ true
    → within_limits (state_after_line s l) ≡ true
unfolding state_after_line
line_within s bytes Empty good sum e n z h = h
line_within s bytes Wrong good sum e n z h = h
line_within s bytes (Change k x) good sum e n z h =
    let a = command_accepts (load_waits s.commands) (commands_full s.commands) good sum (Change k x) z in
    let ok = waits_ok bytes (ranges_of s) (Set k x) (ap (λ (l : Line). (traits_of l).leaves) e) in
    commands_kept s _ h (pushed_within s.commands (Set k x) (ranges_of s) n ok a.free a.room (state_limits s h).commands)
line_within s bytes LoadZero good sum e n z h =
    let a = command_accepts (load_waits s.commands) (commands_full s.commands) good sum LoadZero z in
    addressed_kept s _ h a.free a.room fresh_addresses_lem
line_within s bytes (LoadAt x) good sum e n z h =
    let a = command_accepts (load_waits s.commands) (commands_full s.commands) good sum (LoadAt x) z in
    let w = addresses_are s.staging (state_limits s h).staging in
    addressed_kept s _ h a.free a.room (addresses_whole _ (loadat_within bytes (ranges_of s) x e) w.1)
line_within s bytes Ask good sum e n z h =
    let a = command_accepts (load_waits s.commands) (commands_full s.commands) good sum Ask z in
    counted_kept s h a.room
line_within s bytes (Commit x y k) good sum e n z h =
    let a = command_accepts (load_waits s.commands) (commands_full s.commands) good sum (Commit x y k) z in
    let ok = waits_ok bytes (ranges_of s) (Load x y) (ap (λ (l : Line). (traits_of l).leaves) e) in
    commands_kept s _ h (pushed_within s.commands (Load x y) (ranges_of s) n ok a.free a.room (state_limits s h).commands)
