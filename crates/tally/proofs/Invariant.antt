-- What holds of the tally at every moment: its state is within its limits, its events are in range, what is staged is known, hvstep is a
-- byte, and tables, staging and bitmap keep their lengths. Assumes nothing.
use Rattle.std.proofs.Common.{◌≡◌, true, List, [], ◌∷◌, ◌++◌, ℕ, ◌≤◌, ◌<◌, arith, leb-true, length}
use Rattle.settings.specs.declared.Settings.{Settings}
use Rattle.wire.specs.Lists.{All}
use Rattle.capacity.proofs.NumberLaws.{limhi_slots}
use Rattle.sort.specs.Event.{in_range}
use Rattle.load.specs.Bitmap.{staged_sum}
use Rattle.command_list.specs.CommandList.{command_list_with}
use Rattle.command_list.proofs.CommandListLaws.{CommandListLimits, commands_are}
use Rattle.state.specs.Limits.{within_limits}
use Rattle.state.proofs.LimitLaws.{state_limits}
use Rattle.tally.specs.Tally.{Tally, events_of, slots_for, ranges_for, load_waits_for}
use Rattle.tally.specs.View.{view_state}
use Rattle.tally.specs.Demand3.{StagedKnown, AllRight}

pub all_snoc : {A : Type 0} (P : A → Type 0) (l : List A) (x : A) → All P l → P x → All P (l ++ x ∷ [])
all_snoc P [] x h k = (k, tt)
all_snoc P (y ∷ ys) x h k = (h.0, all_snoc P ys x h.1 k)

-- the lengths that tables, staging and bitmap have from the first call on, right or not
pub record Sizes : Type 0 where
  pub tables : ℕ
  pub staging : ℕ
  pub bitmap : ℕ

pub record Sized (z : Sizes) (s : Settings) (tables staging bitmap : List ℕ) : Type 0 where
  pub hvstep_fits : s.hvstep < 256
  pub tables_are : length tables ≡ z.tables
  pub staging_is : length staging ≡ z.staging
  pub bitmap_is : length bitmap ≡ z.bitmap

pub record Inv (z : Sizes) (t : Tally) : Type 0 where
  pub limits : within_limits (view_state t) ≡ true
  pub range : All (λ e. in_range e ≡ true) (events_of t)
  pub staged : StagedKnown t.bitmap t.wrote t.addresses.reach
  pub commit : load_waits_for t ≡ true → AllRight t.wrote t.addresses.reach
  pub agrees : load_waits_for t ≡ true → staged_sum t.staging t.addresses.reach ≡ t.agreed
  pub sized : Sized z t.settings t.tables t.staging t.bitmap

module _ {z : Sizes} (t : Tally) (v : Inv z t) where
  pub limhi_most : t.settings.limhi ≤ slots_for t
  limhi_most = omega (arith, leb-true t.settings.limhi (ranges_for t).limhi (state_limits (view_state t) v.limits).settings, limhi_slots t.capacity)

  pub commands_most : CommandListLimits (command_list_with t.commands.accepted t.commands.waiting) (ranges_for t)
  commands_most = commands_are _ _ (state_limits (view_state t) v.limits).commands
