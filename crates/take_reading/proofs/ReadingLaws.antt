-- What a reading that is taken has passed, and that it leaves the interval within its limits. Assumes nothing.
use Rattle.std.proofs.Common.{◌≡◌, refl, true, List, ℕ, ◌+◌, ◌*◌, ◌<◌, arith, ltb-true, get_or}
use Rattle.causes.proofs.CheckLaws.{all_passed}
use Rattle.wire.specs.Lists.{EachBelow}
use Rattle.wire.proofs.Lists.{all_at}
use Rattle.wire.proofs.Pieces.{table_most}
use Rattle.state.specs.declared.State.{State}
use Rattle.state.specs.declared.interval.Interval.{Interval}
use Rattle.state.specs.Interval.{most_readings, with_reading, interval_within}
use Rattle.state.specs.Limits.{within_limits}
use Rattle.state.proofs.LimitLaws.{interval_limits, interval_whole}
use Rattle.take_reading.specs.Reading.{reading_checks, reading_number, added_totals}

pub reading_taken : (s : State) → reading_number s ≡ 0 → (within_limits s ≡ true) × (s.interval.readings < most_readings)
unfolding reading_number
reading_taken s h =
    let p = all_passed (reading_checks (within_limits s) s.interval.readings) refl h in
    (p.0, ltb-true _ _ p.1.0)

pub read_within : (slots : ℕ) (i : Interval) (counts : List ℕ) → EachBelow 65536 counts → i.readings < most_readings
    → interval_within slots i ≡ true → interval_within slots (with_reading i (added_totals i.totals counts)) ≡ true
read_within slots i counts f r h =
    let w = interval_limits slots i h in
    interval_whole slots _
    record {
      taken_most = w.taken_most;
      boxes_most = w.boxes_most;
      beacons_most = w.beacons_most;
      used_taken = w.used_taken;
      used_most = w.used_most;
      replaced_taken = w.replaced_taken;
      eligible_taken = w.eligible_taken;
      readings_most = omega arith;
      totals_most = table_most 8 (65535 * (i.readings + 1)) (λ k. get_or i.totals k 0 + get_or counts k 0)
          (λ k. omega (arith, f k, all_at (65535 * i.readings) i.totals k w.totals_most));
    }
