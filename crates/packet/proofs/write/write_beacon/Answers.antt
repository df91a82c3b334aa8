-- `write_beacon` puts the codes of the beacons, those of the sample counts and then zeros from byte 11 to the frame: the body of the beacon
-- packet.
use Rattle.std.proofs.Common.{ℕ, ◌*◌, ◌≡◌, sym, ap, ◌∙◌, List, [], ◌∷◌, ◌++◌, arith, rules, length, length-append}
use Rattle.wire.specs.Bytes.{put, zeros}
use Rattle.wire.proofs.Bytes.{then}
use Rattle.boxes.specs.Boxes.{beacon_count}
use Rattle.packet.specs.Layout.{body_at, code_bytes, sample_counts_at, beacon_end, beacon_unused}
use Rattle.rate_code.specs.Editions.{second_mark}
use Rattle.packet.specs.Packet.{beacon_application, packet_of, codes, beacon_rates, beacon_body, beacon_packet}
use Rattle.packet.proofs.Written.{length_codes, codes_append, length_beacon_body, packet_written}
use Rattle.packet.proofs.write.write_beacon.Goals as goal

pub returns : goal.returns
unfolding beacon_packet
returns c =
    let x = c.write_header.new.part in
    let beacons = c.args.body.beacons.now in
    let counts : List ℕ = c.args.body.eligible ∷ c.args.body.replaced ∷ c.args.body.dropped ∷ [] in
    let B : List ℕ = codes second_mark beacons in
    let C : List ℕ = codes second_mark counts in
    let lb₀ : length beacons ≡ beacon_count = search rules in
    let lb : length B ≡ code_bytes * beacon_count = omega (arith, length_codes second_mark beacons, lb₀) in
    let lc : length C ≡ 6 = length_codes second_mark counts in
    let all : List ℕ = beacon_rates beacons c.args.body.eligible c.args.body.replaced c.args.body.dropped in
    let e : B ++ C ≡ codes second_mark all = codes_append second_mark beacons counts in
    packet_written c.args.part.now _ c.args.stamp (codes second_mark all ++ zeros beacon_unused) c.requires.part_len
    (length_beacon_body second_mark all (length-append beacons counts ∙ omega (arith, lb₀)))
    c.write_header.ensures
    (then x body_at (B ++ C) (zeros beacon_unused) beacon_end
    (then x body_at B C sample_counts_at c.write_codes.ensures c.write_codes-2.ensures (omega arith) (omega arith))
    c.put_zeros.ensures (omega (arith, length-append B C)) (omega arith)
    ∙ ap (λ (l : List ℕ). put x body_at (l ++ zeros beacon_unused)) e)
    c.write_trailer.ensures c.write_sum.ensures
    ∙ ap (λ (m : ℕ). packet_of beacon_application c.args.stamp (beacon_body m all)) (sym c.requires.mark_value)
