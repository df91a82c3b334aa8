-- `argument_of` takes the digits from the first on, and six of them stay below 16 to the sixth.
use Rattle.std.proofs.Common.{◌≡◌, ◌<◌, ◌^◌, drop}
use Rattle.wire.specs.Lists.{all}
use Rattle.command.specs.Grammar.{is_digit, hex_behind, hex_value}
use Rattle.command.proofs.argument.argument_of.Given as goal

abbrev pub invariant-loop-b : goal.invariant-loop-b
invariant-loop-b l =
    (l.n < 16 ^ l.b-index) × (hex_behind l.n (drop l.b-index l.w) ≡ hex_value l.w) × (all is_digit l.w ≡ all is_digit (drop l.b-index l.w))
