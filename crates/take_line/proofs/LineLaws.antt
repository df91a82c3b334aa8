-- What a line that is accepted has passed, check by check. Assumes nothing.
use Rattle.std.proofs.Common.{◌≡◌, refl, Bool, true, ◌&&◌, not, ℕ}
use Rattle.causes.specs.Checks.{number_by}
use Rattle.causes.proofs.CheckLaws.{all_passed}
use Rattle.command.specs.declared.command.Line.{Line}
use Rattle.command.specs.Asked.{traits_of, sum_agrees}
use Rattle.take_line.specs.Line.{command_checks}

-- a command that is accepted is right, finds no load waiting where that would block it, is one of at most 32, and finds no bad byte
-- and the right sum where it is about a load
pub record Accepts (waits full good : Bool) (sum : ℕ) (l : Line) : Type 0 where
  pub right : not (traits_of l).wrong ≡ true
  pub free : not ((traits_of l).staging && waits) ≡ true
  pub room : not ((traits_of l).command && full) ≡ true
  pub sound : not ((traits_of l).load && not good) ≡ true
  pub agrees : sum_agrees (traits_of l).sum sum ≡ true

pub command_accepts : (waits full good : Bool) (sum : ℕ) (l : Line) → number_by (command_checks waits full good sum l) ≡ 0
    → Accepts waits full good sum l
command_accepts waits full good sum l h =
    let p = all_passed (command_checks waits full good sum l) refl h in
    record { right = p.0; free = p.1.0; room = p.1.1.0; sound = p.1.1.1.0; agrees = p.1.1.1.1.0 }
