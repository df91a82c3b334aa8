-- The call `package` (document 01, "Commands and loads" and "Causes and their numbers"; document 02, Point 4). Assumes nothing.
use Rattle.std.specs.Prelude.{cond, List, ℕ, eqb, length}
use Rattle.causes.specs.Causes as cause
use Rattle.load.specs.Bitmap.{bitmap_after}
use Rattle.load.specs.Staging.{payload_bytes, staging_after, addresses_after}
use Rattle.state.specs.declared.State.{State}
use Rattle.state.specs.State.{with_staging}
use Rattle.take_package.specs.Package.{package_call_number, is_staged, staged_echo}
use Rattle.processor.specs.Answer.{Answer, answer}

-- what the call hands back and leaves in the lent staging, bitmap and echo
pub record PackageDone : Type 0 where
  pub answer : Answer
  pub staging : List ℕ
  pub bitmap : List ℕ
  pub echo : List ℕ

abbrev pub package_by : (number : ℕ) → State → (p staging bitmap echo : List ℕ) → PackageDone
package_by number s p staging bitmap echo = record {
  answer = answer number (cond (is_staged number) (with_staging s (addresses_after s.staging p)) s);
  staging = cond (is_staged number) (staging_after staging s.staging.next p) staging;
  bitmap = cond (is_staged number) (bitmap_after bitmap s.staging.next (payload_bytes p) (eqb number cause.package_sum)) bitmap;
  echo = cond (is_staged number) (staged_echo number s.staging.next p) echo;
}

unfoldable pub package_done : State → (p staging bitmap echo : List ℕ) → PackageDone
package_done s p staging bitmap echo =
    package_by (package_call_number s p (length staging) (length bitmap) (length echo)) s p staging bitmap echo
