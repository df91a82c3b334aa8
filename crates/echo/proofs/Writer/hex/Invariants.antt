-- After some bytes `hex` has written the digits of these.
use Rattle.std.proofs.Common.{◌≡◌, ◌+◌, ◌*◌, ◌++◌, take}
use Rattle.wire.specs.Pieces.{runs}
use Rattle.wire.specs.Text.{hex2}
use Rattle.echo.specs.Echo.{written}
use Rattle.echo.proofs.Writer.hex.Given as goal

abbrev pub invariant-loop-byte : goal.invariant-loop-byte
invariant-loop-byte l = record {
  same_echo : l.self.echo.ghost_name ≡ l.initial.self.echo.ghost_name;
  next : l.self.at ≡ l.initial.self.at + 2 * l.byte-index;
  digits : written l.self ≡ written l.initial.self ++ runs hex2 (take l.byte-index l.bytes);
}
