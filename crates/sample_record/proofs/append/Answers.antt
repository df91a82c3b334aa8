-- `append` shifts left without loss, and the field fills the bits that became zero.
use Rattle.std.proofs.Common.{ℕ, ap, ◌∙◌, mod-eq_of_lt, bit_or}
use lib.Bits.{or_shifted}
use Rattle.sample_record.proofs.append.Goals as goal

pub returns : goal.returns
returns c =
    let a = c.args in
    ap (λ (n : ℕ). bit_or n a.field) (mod-eq_of_lt c.requires.1) ∙ or_shifted a.x a.bits a.field c.requires.2
