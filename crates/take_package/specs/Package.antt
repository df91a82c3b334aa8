-- One load package: its number, and its echo where it is staged (document 01, "Commands and loads" and "Causes and their numbers";
-- document 02, Point 4). Assumes nothing.
use Rattle.std.specs.Prelude.{Bool, ◌&&◌, ◌||◌, not, cond, List, ◌∷◌, ℕ, eqb}
use Rattle.causes.specs.Causes as cause
use Rattle.causes.specs.Checks.{Check, number_by}
use Rattle.echo.specs.Echo.{echo_bytes, package_ok_echo, package_error_echo}
use Rattle.load.specs.Bitmap.{bitmap_bytes}
use Rattle.load.specs.Staging.{staging_bytes, payload_bytes, received_sum, computed_sum, package_checks}
use Rattle.command_list.specs.CommandList.{load_waits}
use Rattle.state.specs.declared.State.{State}
use Rattle.state.specs.Limits.{within_limits}

-- no "lent buffer .. of other length", from the lengths of staging, bitmap and echo
abbrev pub package_lent : (staging bitmap echo : ℕ) → Bool
package_lent staging bitmap echo = eqb staging staging_bytes && eqb bitmap bitmap_bytes && eqb echo echo_bytes

-- what is lent, and the state, are sound; "a load waits (.. package)"; then those of the package itself, 8, 9 and 10
abbrev pub package_call_checks : (sound waits : Bool) (p : List ℕ) (next : ℕ) → List Check
package_call_checks sound waits p next = (sound, cause.buffer_or_state) ∷ (not waits, cause.load_waiting) ∷ package_checks p next

unfoldable pub package_call_number : State → (p : List ℕ) (staging bitmap echo : ℕ) → ℕ
package_call_number s p staging bitmap echo =
    number_by (package_call_checks (within_limits s && package_lent staging bitmap echo) (load_waits s.commands) p s.staging.next)

-- 10 is the one refusal that changes something: "all but staging, addresses, echo"; "the tally keeping which staged bytes are bad; 10
-- changes that too"
abbrev pub is_staged : (number : ℕ) → Bool
is_staged number = eqb number cause.carried_out || eqb number cause.package_sum

-- "A the address before, N the bytes placed"; ckserr "with received and computed sum for OK"
abbrev pub staged_echo : (number next : ℕ) (p : List ℕ) → List ℕ
staged_echo number next p =
    cond (eqb number cause.carried_out)
    (package_ok_echo next (payload_bytes p))
    (package_error_echo next (payload_bytes p) (received_sum p) (computed_sum p))
