-- The sample record (document 01, "One event", Samples). Assumes nothing.
use Rattle.std.specs.Prelude.{Bool, ◌&&◌, ◌||◌, ℕ, ◌+◌, ◌*◌, ◌/◌, ◌%◌, ◌^◌, ◌<◌, eqb, leb}
use Rattle.boxes.specs.Boxes.{box_count, out_of_bounds_box}
use Rattle.wire.specs.Bits.{bit_of}
use Rattle.sample_record.specs.declared.Sample.{Sample}

-- the fields fit their bits
abbrev pub SampleFits : Sample → Type 0
SampleFits s = (s.t < 512) × (s.channel < 2048) × (s.ratebox < 128)

-- "Record from bit 31 down: t 9 bits, channel used 11, FLG0, FLG1, gain, error, box 7, priority"
unfoldable pub record_of : Sample → ℕ
record_of s =
    ((((((s.t * 2 ^ 11 + s.channel) * 2 ^ 1 + bit_of s.flg0) * 2 ^ 1 + bit_of s.flg1) * 2 ^ 1 + bit_of s.gain) * 2 ^ 1
    + bit_of s.error) * 2 ^ 7 + s.ratebox) * 2 ^ 1 + bit_of s.priority

-- the same bits, taken apart
abbrev pub bit_at : ℕ → ℕ → Bool
bit_at n x = eqb (x / 2 ^ n % 2 ^ 1) 1

unfoldable pub sample_of : ℕ → Sample
sample_of x = record {
  t = x / 2 ^ 23 % 2 ^ 9;
  channel = x / 2 ^ 12 % 2 ^ 11;
  flg0 = bit_at 11 x;
  flg1 = bit_at 10 x;
  gain = bit_at 9 x;
  error = bit_at 8 x;
  ratebox = x / 2 ^ 1 % 2 ^ 7;
  priority = bit_at 0 x;
}

-- the box bits of a record
abbrev pub record_box : ℕ → ℕ
record_box x = x / 2 ^ 1 % 2 ^ 7

-- "each slot zero or of box 6 to 116"; a "non-zero record with box outside 6 to 116" is a fault
abbrev pub record_good : ℕ → Bool
record_good x = eqb x 0 || (leb out_of_bounds_box (record_box x) && leb (record_box x) box_count)
