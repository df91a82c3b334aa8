-- The digits of one byte more are behind those of the bytes before it.
use Rattle.std.proofs.Common.{◌∙◌, ◌++◌, ℕ, List, take, sym, ap, refl, arith, append_assoc, append-nil}
use Rattle.std.specs.Prelude.{get_or}
use Rattle.wire.specs.Pieces.{runs}
use Rattle.wire.specs.Text.{hex2}
use Rattle.wire.proofs.Pieces.{runs_take}
use Rattle.echo.specs.Echo.{written}
use Rattle.echo.proofs.Writer.hex.Goals as goal

pub loop-byte-init : goal.loop-byte-init
unfolding runs
loop-byte-init c = record { same_echo = refl; next = omega arith; digits = sym (append-nil _) }

pub loop-byte-preserved : goal.loop-byte-preserved
loop-byte-preserved c =
    let bytes = c.args.bytes.now in
    let i = c.loop-byte.byte-index in
    let front : List ℕ = written c.args.self.now in
    let h = c.loop-byte.invariant in
    record {
      same_echo = c.hex2.ensures.same_echo ∙ h.same_echo;
      next = omega (arith, h.next, c.hex2.ensures.next);
      digits =
          c.hex2.ensures.written
          ∙ ap (λ (l : List ℕ). l ++ hex2 (get_or bytes i 0)) h.digits
          ∙ append_assoc front (runs hex2 (take i bytes)) (hex2 (get_or bytes i 0))
          ∙ ap (λ (l : List ℕ). front ++ l) (sym (runs_take hex2 bytes i (omega arith)));
    }
