-- An accepted command finds room.
use Rattle.std.proofs.Common.{true, ◌≡◌, arith, ◌<◌}
use Rattle.command.specs.Asked.{traits_of}
use Rattle.command_list.specs.CommandList.{most_commands}
use Rattle.command_list.proofs.CommandListLaws.{commands_are, room}
use Rattle.state.proofs.LimitLaws.{state_limits}
use Rattle.take_line.proofs.accept.Goals as goal

pub accept-requires : goal.accept-requires
accept-requires c =
    let s = c.args.state.now in
    let is : (traits_of c.args.line).command ≡ true = rw (← c.traits_of-traits.ensures) c.if-traits.true in
    let r : s.commands.accepted < most_commands = room s.commands (rw is at c.requires.commands_value) in
    (omega (arith, (commands_are s.commands _ (state_limits s c.requires.state_value).commands).waiters_most), r)
