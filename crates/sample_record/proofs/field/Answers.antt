-- `field` shifts right and keeps the lowest bits, which are the remainder by a power of two.
use Rattle.std.proofs.Common.{◌/◌, ◌^◌, pow_pos}
use lib.Bits.{and_mask}
use Rattle.sample_record.proofs.RecordLaws.{mask}
use Rattle.sample_record.proofs.field.Goals as goal

pub returns : goal.returns
returns c =
    let a = c.args in
    rw (mask a.bits c.requires.1) (and_mask (a.x / 2 ^ a.shift) a.bits)
