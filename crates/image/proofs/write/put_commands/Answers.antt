-- After i commands `put_commands` has put the six bytes of each of the first i, in order.
use Rattle.std.proofs.Common.{rules, ℕ, ◌+◌, ◌*◌, ◌≡◌, ap, refl, sym, ◌∙◌, List, arith, length, take, get_or}
use Rattle.wire.specs.Bytes.{put}
use Rattle.wire.proofs.Bytes.{put_put, put_nil}
use Rattle.command_list.specs.CommandList.{filler}
use Rattle.image.specs.Image.{command_bytes, commands_bytes}
use Rattle.image.proofs.ListLaws.{commands_take, length_commands_take}
use Rattle.image.proofs.write.put_commands.Goals as goal

pub loop-i-init : goal.loop-i-init
unfolding commands_bytes
loop-i-init c = (put_nil _ _, refl)

pub loop-i-preserved : goal.loop-i-preserved
loop-i-preserved c =
    let a = c.args in
    let xs = a.image.now in
    let ws = a.waiting.now in
    let i = c.loop-i.i in
    let n : length ws ≡ 32 = search rules in
    let cb = command_bytes (get_or ws i filler).command in
    let lw : length (commands_bytes (take i ws)) ≡ 6 * i = length_commands_take ws i (omega arith) in (
      c.put_command.ensures
          ∙ ap (λ (d : List ℕ). put d (a.at + 6 * i) cb) c.loop-i.invariant.0
          ∙ put_put xs a.at (commands_bytes (take i ws)) cb (a.at + 6 * i) (omega arith) (omega arith)
          ∙ ap (λ (v : List ℕ). put xs a.at v) (sym (commands_take ws i (omega arith))),
      omega arith,
    )
