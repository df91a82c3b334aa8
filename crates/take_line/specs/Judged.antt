-- What judging a line hands over: its cause, or the sum of a line that is accepted. Assumes nothing.
use Rattle.std.specs.Prelude.{◌≡◌, ℕ, List, Result, IfOk}
use Rattle.causes.specs.Causes.{call_number}
use Rattle.causes.specs.Checks.{Check, number_by}
use Rattle.causes.specs.declared.Cause.{Cause}

-- the number is that of the checks, and the sum is the given one where they are all passed
abbrev pub JudgedAs : Result ℕ Cause → List Check → (sum : ℕ) → Type 0
JudgedAs judged checks sum = (call_number judged ≡ number_by checks) × IfOk judged (λ n. n ≡ sum)
