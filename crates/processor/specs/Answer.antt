-- What every call but `close` hands back (document 01, "Causes and their numbers"). Assumes nothing.
use Rattle.std.specs.Prelude.{ℕ, cond, eqb}
use Rattle.causes.specs.Causes.{carried_out}
use Rattle.state.specs.declared.State.{State}

-- a call's number, 0 where it was carried out, and the state
pub record Answer : Type 0 where
  pub number : ℕ
  pub state : State

-- a number and a state
abbrev pub answer : (number : ℕ) → State → Answer
answer number s = record { number = number; state = s }

-- "A call that is carried out answers 0": what it makes of something. By any other number that is left as it was
abbrev pub if_carried_out : {A : Type 0} (number : ℕ) (after before : A) → A
if_carried_out number after before = cond (eqb number carried_out) after before
