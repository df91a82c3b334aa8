-- What holds of the numbers of every capacity. All that proofs know of them. Assumes nothing.
use Rattle.std.proofs.Common.{◌≡◌, refl, ◌+◌, ◌*◌, ◌<◌, arith}
use Rattle.capacity.specs.declared.Capacity.{Capacity}
use Rattle.capacity.specs.declared.Capacity.TheVariants.{Slots704}
use Rattle.capacity.specs.Capacity.{numbers_of}

-- each sample packet has 64 slots
pub slots_in_packets : (c : Capacity) → (numbers_of c).slots ≡ 64 * (numbers_of c).samples
slots_in_packets Slots704 = refl

-- beside the sample packets stand a rate packet and a beacon packet
pub packets_are : (c : Capacity) → (numbers_of c).packets ≡ (numbers_of c).samples + 2
packets_are Slots704 = refl

-- LIMHI lets no more be replaced than there are
pub limhi_slots : (c : Capacity) → (numbers_of c).limhi ≡ (numbers_of c).slots
limhi_slots Slots704 = refl

-- p is a byte
pub samples_byte : (c : Capacity) → (numbers_of c).samples < 256
samples_byte Slots704 = omega arith
