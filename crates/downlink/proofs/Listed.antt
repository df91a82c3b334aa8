-- The ground gathers each listing packet that is written. Assumes nothing.
use Rattle.std.proofs.Common.{◌≡◌, refl, List, ℕ, ◌<◌, eq-eqb, lt-ltb, length}
use Rattle.tables.specs.Tables.{table_bytes}
use Rattle.listing_packet.specs.Listing.{listing_packets, listing_packet}
use Rattle.listing_packet.proofs.Listed.{listing_accepted}
use Rattle.processor.specs.Listing.{listing_number, listing_done}
use Rattle.processor.proofs.CallLaws as passed
use Rattle.downlink.specs.Downlink.{Listed, ListingReceived, ListingCarried}

pub listing_listed : (frame time i : ℕ) → i < listing_packets → (tables : List ℕ) → length tables ≡ table_bytes
    → Listed tables i (listing_packet frame time i tables)
listing_listed frame time i h tables lt = record {
  of_tables = record { frame = frame; time = time; packet_is = refl };
  accepted = listing_accepted frame time i h tables lt;
}

pub listing_received : ListingReceived
unfolding listing_done
listing_received w i time out z =
    let p = passed.listing_accepted w.state i _ _ z in
    rw (eq-eqb _ _ z) (listing_listed w.state.frame time i p.listed w.buffers.tables p.tables_are)

pub listing_carried : ListingCarried
unfolding listing_done listing_number
listing_carried w i time out h lt lo k = rw (h, eq-eqb _ _ lt, eq-eqb _ _ lo, lt-ltb _ _ k)
