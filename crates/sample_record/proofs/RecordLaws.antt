-- A packed record gives back its fields, and is zero only without a box. Assumes nothing.
use Rattle.std.proofs.Common.{◌≡◌, refl, Bool, true, false, ℕ, ◌*◌, ◌/◌, ◌%◌, ◌^◌, ◌≤◌, ◌<◌, mod-eq_of_lt, one-mul, arith}
use Rattle.std.proofs.Math.Pow.{pow-lt}
use mir.Val.{bool_byte}
use Rattle.sample_record.specs.declared.Sample.{Sample}
use Rattle.wire.specs.Bits.{bit_of}
use Rattle.wire.proofs.BitLaws.{bit_small, bit_back}
use Rattle.sample_record.specs.Record.{SampleFits, record_of, sample_of, record_box}

-- one shifted left by fewer than 32 does not wrap
pub mask : (k : ℕ) → k < 32 → 1 * 2 ^ k % 4294967296 ≡ 2 ^ k
mask k h = rw (one-mul, mod-eq_of_lt (pow-lt h))

-- a flag as a number is its bit
pub flag_is : (b : Bool) → bool_byte b ≡ bit_of b
flag_is true = refl
flag_is false = refl

-- ---- a record taken apart

module _ (s : Sample) (h : SampleFits s) where
  flags : (bit_of s.flg0 ≤ 1) × (bit_of s.flg1 ≤ 1) × (bit_of s.gain ≤ 1) × (bit_of s.error ≤ 1) × (bit_of s.priority ≤ 1)
  flags = (bit_small s.flg0, bit_small s.flg1, bit_small s.gain, bit_small s.error, bit_small s.priority)

  at_t : record_of s / 2 ^ 23 % 2 ^ 9 ≡ s.t
  unfolding record_of
  at_t = omega (arith, flags)

  at_channel : record_of s / 2 ^ 12 % 2 ^ 11 ≡ s.channel
  unfolding record_of
  at_channel = omega (arith, flags)

  at_flg0 : record_of s / 2 ^ 11 % 2 ^ 1 ≡ bit_of s.flg0
  unfolding record_of
  at_flg0 = omega (arith, flags)

  at_flg1 : record_of s / 2 ^ 10 % 2 ^ 1 ≡ bit_of s.flg1
  unfolding record_of
  at_flg1 = omega (arith, flags)

  at_gain : record_of s / 2 ^ 9 % 2 ^ 1 ≡ bit_of s.gain
  unfolding record_of
  at_gain = omega (arith, flags)

  at_error : record_of s / 2 ^ 8 % 2 ^ 1 ≡ bit_of s.error
  unfolding record_of
  at_error = omega (arith, flags)

  -- the box bits of a packed record are its box
  pub record_box_lem : record_box (record_of s) ≡ s.ratebox
  unfolding record_of
  record_box_lem = omega (arith, flags)

  at_priority : record_of s / 2 ^ 0 % 2 ^ 1 ≡ bit_of s.priority
  unfolding record_of
  at_priority = omega (arith, flags)

  -- "unpacking a packed record gives its fields"
  pub unpacked : sample_of (record_of s) ≡ s
  unfolding sample_of
  unpacked = λ i. record {
    t = at_t i;
    channel = at_channel i;
    flg0 = bit_back s.flg0 _ at_flg0 i;
    flg1 = bit_back s.flg1 _ at_flg1 i;
    gain = bit_back s.gain _ at_gain i;
    error = bit_back s.error _ at_error i;
    ratebox = record_box_lem i;
    priority = bit_back s.priority _ at_priority i;
  }

-- a record whose box is not 0 is not 0
pub record_nonzero : (s : Sample) → 0 < s.ratebox → 0 < record_of s
unfolding record_of
record_nonzero s h = omega arith
