-- A packet is accepted exactly where it passes every test, and then has 272 bytes and the codes of its kind. Assumes nothing.
use Rattle.std.specs.Prelude.{Option, Some, None, ◌≡◌, refl, Bool, true, false, ◌&&◌, cond, List, ℕ, ◌%◌, leb, eqb, length, get_or}
use Rattle.std.proofs.Common.{sym, ap, ◌∙◌, eqb-true, eq-eqb}
use Rattle.std.proofs.Math.Bool.{false≢true}
use Rattle.causes.specs.Checks.{Passed}
use Rattle.causes.proofs.CheckLaws.{all_passed}
use Rattle.wire.specs.Bytes.{at16}
use Rattle.wire.proofs.Lists.{and_left, and_right}
use Rattle.packet.specs.Layout.{packet_bytes, rate_count, gap_at, limhi_at, junk_flag, beacon_rate_count, beacon_end, beacon_unused}
use Rattle.decode.specs.declared.kind.Kind.{Kind}
use Rattle.decode.specs.declared.kind.Kind.TheVariants.{Rate, Beacon}
use Rattle.decode.specs.Limits.{largest_limhi}
use Rattle.decode.specs.Read.{application_of, kind_of, is_kind, flag_byte, fields_good, header_good, sum_good, codes_good, zeros_good, end_good}
use Rattle.decode.specs.Read.{rate_good, beacon_good, body_good}
use Rattle.decode.specs.Read.{read_checks, read_number}

-- what has a header has 272 bytes
pub header_length : (xs : List ℕ) → header_good xs ≡ true → length xs ≡ packet_bytes
unfolding header_good
header_length xs h = eqb-true (length xs) packet_bytes (and_left _ _ (and_left _ _ h))

pub accepted_is : (xs : List ℕ) → header_good xs ≡ true → sum_good xs ≡ true → body_good (kind_of (application_of xs)) xs ≡ true
    → read_number xs ≡ 0
unfolding read_number
accepted_is xs h s b = rw (h, s, b)

-- the kind that the header names, where it is that of one
header_by : (b : Bool) (named : Option Kind) (k : Kind) → cond b named None ≡ Some k → (b ≡ true) × (named ≡ Some k)
header_by true named k e = (refl, e)
header_by false named k e = absurd (false≢true (ap is_kind e))

pub taken_by : (xs : List ℕ) (k : Kind) → length xs ≡ packet_bytes → cond (fields_good xs) (kind_of (application_of xs)) None ≡ Some k
    → sum_good xs ≡ true → body_good (Some k) xs ≡ true → (read_number xs ≡ 0) × (kind_of (application_of xs) ≡ Some k)
unfolding header_good
taken_by xs k l e s b =
    let h = header_by (fields_good xs) (kind_of (application_of xs)) k e in
    (accepted_is xs (rw (eq-eqb _ _ l, h.0, h.1) refl) s (ap (λ (t : Option Kind). body_good t xs) h.1 ∙ b), h.1)

pub passed : (xs : List ℕ) → read_number xs ≡ 0 → Passed (read_checks xs)
unfolding read_number
passed xs e = all_passed (read_checks xs) refl e

pub accepted_length : (xs : List ℕ) → read_number xs ≡ 0 → length xs ≡ packet_bytes
accepted_length xs e = header_length xs (passed xs e).0

pub accepted_body : (xs : List ℕ) (k : Option Kind) → read_number xs ≡ 0 → kind_of (application_of xs) ≡ k → body_good k xs ≡ true
accepted_body xs k e q = sym (ap (λ (t : Option Kind). body_good t xs) q) ∙ (passed xs e).1.1.0

pub accepted_rate : (xs : List ℕ) → body_good (Some Rate) xs ≡ true → rate_good xs ≡ true
unfolding body_good
accepted_rate xs e = e

pub accepted_beacon : (xs : List ℕ) → body_good (Some Beacon) xs ≡ true → beacon_good xs ≡ true
unfolding body_good
accepted_beacon xs e = e

pub rate_accepted : (xs : List ℕ) → rate_good xs ≡ true → body_good (Some Rate) xs ≡ true
unfolding body_good
rate_accepted xs e = e

pub beacon_accepted : (xs : List ℕ) → beacon_good xs ≡ true → body_good (Some Beacon) xs ≡ true
unfolding body_good
beacon_accepted xs e = e

pub rate_codes : (xs : List ℕ) → rate_good xs ≡ true → codes_good rate_count xs ≡ true
unfolding rate_good
rate_codes xs e = and_left _ _ (and_left _ _ (and_left _ _ (and_left _ _ e)))

pub rate_end : (xs : List ℕ) → rate_good xs ≡ true → end_good xs ≡ true
unfolding rate_good
rate_end xs e =
    and_right (codes_good rate_count xs && eqb (get_or xs gap_at 0) 0 && eqb (flag_byte xs % junk_flag) 0 && leb (at16 xs limhi_at) largest_limhi)
    (end_good xs) e

pub beacon_codes : (xs : List ℕ) → beacon_good xs ≡ true → codes_good beacon_rate_count xs ≡ true
unfolding beacon_good
beacon_codes xs e = and_left _ _ (and_left _ _ e)

pub beacon_end_lem : (xs : List ℕ) → beacon_good xs ≡ true → end_good xs ≡ true
unfolding beacon_good
beacon_end_lem xs e = and_right (codes_good beacon_rate_count xs && zeros_good beacon_end beacon_unused xs) (end_good xs) e
