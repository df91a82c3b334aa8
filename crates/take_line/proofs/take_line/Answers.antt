-- The reach is within staging, and so many commands are accepted as there may be.
use Rattle.load.proofs.StagingLaws.{addresses_are}
use Rattle.command_list.proofs.CommandListLaws.{commands_are}
use Rattle.state.specs.Limits.{ranges_of}
use Rattle.state.proofs.LimitLaws.{state_limits}
use Rattle.take_line.proofs.take_line.Goals as goal

pub judge-judged-requires : goal.judge-judged-requires
judge-judged-requires c =
    let s = c.args.state.now in (addresses_are s.staging (state_limits s c.requires.state_value.0).staging).1

pub write_echo-requires-clause-accepted_le_most_commands : goal.write_echo-requires-clause-accepted_le_most_commands
write_echo-requires-clause-accepted_le_most_commands c =
    let s = c.args.state.now in
    (commands_are s.commands (ranges_of s) (state_limits s c.requires.state_value.0).commands).accepted_most
