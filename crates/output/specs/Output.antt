-- The packets of an ended interval (document 01, "Packets"). Assumes nothing.
use Rattle.std.specs.Prelude.{List, [], ◌++◌, ℕ, zero, suc, ◌+◌, ◌*◌, take, drop}
use Rattle.capacity.specs.declared.Numbers.{Numbers}
use Rattle.rate_code.specs.Editions.{second_mark}
use Rattle.packet.specs.Layout.{packet_bytes}
use Rattle.packet.specs.Packet.{stamp_of, rate_packet, sample_packet, beacon_rates, beacon_packet}
use Rattle.output.specs.declared.Span.{Span}
use Rattle.output.specs.declared.Summary.{Summary}
use Rattle.output.specs.Ended.{Ended}

-- ---- which sample packets

-- all that there are slots for: "packet p (0 to 10)"
abbrev pub whole_span : Numbers → Span
whole_span n = record { first = 0; many = n.samples }

-- the bytes of these with a rate packet before and a beacon packet behind them: "Close writes 13 × 272 bytes"
abbrev pub span_bytes : Span → ℕ
span_bytes s = packet_bytes * (s.many + 2)

-- ---- the packets

-- n sample packets from `first` on: "packet p .. has slots 64p to 64p + 63", the first of them the slots from 0 on
unfoldable pub samples_of : (frame time : ℕ) (slots : List ℕ) (first n : ℕ) → List ℕ
samples_of frame time slots first zero = []
samples_of frame time slots first (suc n) =
    samples_of frame time slots first n ++ sample_packet (stamp_of frame time (first + n)) (take 64 (drop (64 * n) slots))

-- the beacon packet's rates
abbrev pub beacon_rates_in : Summary → List ℕ
beacon_rates_in s = beacon_rates s.counts.beacons s.eligible s.replaced s.dropped

-- "rate .., samples .., beacon"; "Rate and beacon packets get 1 in byte 269" (document 02, Point 5)
unfoldable pub written : Ended → Span → List ℕ
written e s =
    rate_packet (stamp_of e.frame e.time second_mark) e.totals e.summary.counts.boxes e.settings e.sum
    ++ samples_of e.frame e.time e.slots s.first s.many
    ++ beacon_packet (stamp_of e.frame e.time second_mark) (beacon_rates_in e.summary)

-- ---- where each stands

-- packet k of the output, from 0 on
abbrev pub packet_at : (out : List ℕ) (k : ℕ) → List ℕ
packet_at out k = take packet_bytes (drop (packet_bytes * k) out)

abbrev pub rate_place : ℕ
rate_place = 0

-- the sample packet that has the slots from 64i on
abbrev pub sample_place : (i : ℕ) → ℕ
sample_place i = i + 1

abbrev pub beacon_place : Span → ℕ
beacon_place s = s.many + 1
