-- A packet that is taken has its words inside the tables.
use Rattle.std.proofs.Common.{sym, arith, ℕ, length-take}
use Rattle.listing_packet.proofs.ListingLaws.{gather_passes}
use Rattle.gatherer.proofs.gather.Goals as goal

pub put_bytes-requires : goal.put_bytes-requires
put_bytes-requires c =
    let p = gather_passes _ _ (sym c.in_ok-packet.ensures.number) in
    omega (arith, length-take {A = ℕ}, p.tables_are, c.in_ok-packet.field-0.place_fits, c.in_ok-packet.place-is)
