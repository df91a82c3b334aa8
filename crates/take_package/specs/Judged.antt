-- What judging a package hands over, where the buffers that are lent have their lengths: why nothing is changed, or the package that is
-- staged. Assumes nothing.
use Rattle.std.specs.Prelude.{◌≡◌, true, false, List, ℕ, Result, MatchResult, cond, eqb}
use Rattle.causes.specs.Causes.{carried_out, package_sum, cause_number}
use Rattle.causes.specs.declared.Cause.{Cause}
use Rattle.echo.specs.Echo.{echo_bytes}
use Rattle.load.specs.declared.package.Package.{Package}
use Rattle.load.specs.Bitmap.{bitmap_bytes}
use Rattle.load.specs.Staging.{staging_bytes, received_sum, computed_sum, fits}
use Rattle.state.specs.declared.State.{State}
use Rattle.take_package.specs.Package.{package_call_number, is_staged}

-- the number of the call
abbrev pub number_of : State → (p : List ℕ) → ℕ
number_of s p = package_call_number s p staging_bytes bitmap_bytes echo_bytes

abbrev pub JudgedAs : Result Package Cause → State → (p : List ℕ) → Type 0
JudgedAs judged s p =
    MatchResult judged
    (λ sent. (sent.bytes.now ≡ p) × (fits p s.staging.next ≡ true)
    × (number_of s p ≡ cond (eqb (received_sum p) (computed_sum p)) carried_out package_sum))
    (λ c. (number_of s p ≡ cause_number c) × (is_staged (cause_number c) ≡ false))
