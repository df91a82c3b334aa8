-- What a package that is staged has passed, check by check. Assumes nothing.
use Rattle.std.proofs.Common.{◌≡◌, refl, Bool, true, false, ◌&&◌, not, cond, List, [], ◌∷◌, ℕ, eqb-true, eqb}
use Rattle.causes.specs.Causes as cause
use Rattle.causes.specs.Checks.{Check, number_by}
use Rattle.causes.proofs.CheckLaws.{passed_first}
use Rattle.wire.proofs.Lists.{and_split}
use Rattle.load.specs.Bitmap.{bitmap_bytes}
use Rattle.load.specs.Staging.{staging_bytes, formed, fits, placeable, received_sum, computed_sum}
use Rattle.echo.specs.Echo.{echo_bytes}
use Rattle.command_list.specs.CommandList.{load_waits}
use Rattle.state.specs.declared.State.{State}
use Rattle.state.specs.Limits.{within_limits}
use Rattle.take_package.specs.Package.{package_lent, package_call_checks, package_call_number, is_staged}
use Rattle.take_package.specs.Judged.{number_of}

-- whatever it is judged sound and waiting by; and its number tells whether its sum is right
pub record Passed (sound waits : Bool) (p : List ℕ) (next n : ℕ) : Type 0 where
  pub is_sound : sound ≡ true
  pub none_waits : not waits ≡ true
  pub is_formed : formed p ≡ true
  pub is_fitting : fits p next ≡ true
  pub number_tells : eqb n cause.package_sum ≡ not (eqb (received_sum p) (computed_sum p))

pub staged_passed : (sound waits : Bool) (p : List ℕ) (next : ℕ)
    → let n = number_by (package_call_checks sound waits p next) in
    is_staged n ≡ true → Passed sound waits p next n
staged_passed sound waits p next h =
    let first : List Check =
    (sound, cause.buffer_or_state) ∷ (not waits, cause.load_waiting) ∷ (formed p, cause.package_form) ∷ (fits p next, cause.past_staging) ∷ [] in
    let right : Bool = eqb (received_sum p) (computed_sum p) in
    let k = passed_first is_staged first ((right, cause.package_sum) ∷ []) refl h in
    record {
      is_sound = k.0;
      none_waits = k.1.0;
      is_formed = k.1.1.0;
      is_fitting = k.1.1.1.0;
      number_tells = rw (k.0, k.1.0, k.1.1.0, k.1.1.1.0) (ten right);
    }
  where
    ten : (b : Bool) → eqb (cond b 0 10) 10 ≡ not b
    ten true = refl
    ten false = refl

-- of these lengths
pub record RightLengths (staging bitmap echo : ℕ) : Type 0 where
  pub staging_is : staging ≡ staging_bytes
  pub bitmap_is : bitmap ≡ bitmap_bytes
  pub echo_is : echo ≡ echo_bytes

pub package_lent_lem : (staging bitmap echo : ℕ) → package_lent staging bitmap echo ≡ true → RightLengths staging bitmap echo
package_lent_lem staging bitmap echo h =
    let q = and_split _ _ h in
    let r = and_split _ _ q.0 in
    record { staging_is = eqb-true _ _ r.0; bitmap_is = eqb-true _ _ r.1; echo_is = eqb-true _ _ q.1 }

pub record PackageStaged (s : State) (p : List ℕ) (staging bitmap echo : ℕ) : Type 0 where
  pub limits : within_limits s ≡ true
  pub lengths : RightLengths staging bitmap echo
  pub none_waits : not (load_waits s.commands) ≡ true
  pub is_formed : formed p ≡ true
  pub is_placeable : placeable p s.staging.next ≡ true

pub package_staged : (s : State) (p : List ℕ) (staging bitmap echo : ℕ) → is_staged (package_call_number s p staging bitmap echo) ≡ true
    → PackageStaged s p staging bitmap echo
unfolding package_call_number
package_staged s p staging bitmap echo h =
    let k = staged_passed (within_limits s && package_lent staging bitmap echo) (load_waits s.commands) p s.staging.next h in
    let q = and_split _ _ k.is_sound in
    record {
      limits = q.0;
      lengths = package_lent_lem staging bitmap echo q.1;
      none_waits = k.none_waits;
      is_formed = k.is_formed;
      is_placeable = rw (k.is_formed, k.is_fitting);
    }

-- a buffer of another length is refused, whatever else applies
pub other_lengths : (s : State) (p : List ℕ) (staging bitmap echo : ℕ) → package_lent staging bitmap echo ≡ false
    → package_call_number s p staging bitmap echo ≡ cause.buffer_or_state
unfolding package_call_number
other_lengths s p staging bitmap echo h = rw h (go (within_limits s) _)
  where
    go : (b : Bool) (n : ℕ) → cond (b && false) n 1 ≡ 1
    go true n = refl
    go false n = refl

-- and where each has its own, the number is that of such a call
pub right_lengths : (s : State) (p : List ℕ) (staging bitmap echo : ℕ) → package_lent staging bitmap echo ≡ true
    → package_call_number s p staging bitmap echo ≡ number_of s p
unfolding package_call_number
right_lengths s p staging bitmap echo h = rw h
