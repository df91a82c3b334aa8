-- `write_rate` puts codes, settings and table sum in a row from byte 11 on: the body of the rate packet.
use Rattle.std.proofs.Common.{ℕ, ◌*◌, ◌≡◌, sym, ap, ◌∙◌, List, ◌++◌, arith, rules, length, length-append}
use Rattle.wire.proofs.Bytes.{then}
use Rattle.boxes.specs.Boxes.{box_count, total_count}
use Rattle.packet.specs.Layout.{body_at, code_bytes, rate_count, boxes_at, gap_at}
use Rattle.rate_code.specs.Editions.{second_mark}
use Rattle.packet.specs.Packet.{rate_application, packet_of, codes, settings_bytes, rate_body, rate_packet}
use Rattle.packet.proofs.Written.{length_codes, length_rate_body, packet_written}
use Rattle.packet.proofs.write.write_rate.Goals as goal

pub returns : goal.returns
unfolding rate_packet
returns c =
    let x = c.write_header.new.part in
    let totals = c.args.body.totals.now in
    let boxes = c.args.body.boxes.now in
    let T : List ℕ = codes second_mark totals in
    let B : List ℕ = codes second_mark boxes in
    let S : List ℕ = settings_bytes c.args.body.settings c.args.body.sum in
    let lt₀ : length totals ≡ total_count = search rules in
    let lb₀ : length boxes ≡ box_count = search rules in
    let lt : length T ≡ code_bytes * total_count = omega (arith, length_codes second_mark totals, lt₀) in
    let l : length (T ++ B) ≡ code_bytes * rate_count = omega (arith, length-append T B, length_codes second_mark boxes, lb₀) in
    packet_written c.args.part.now _ c.args.stamp (T ++ B ++ S) c.requires.part_len
    (length_rate_body second_mark totals boxes c.args.body.settings c.args.body.sum lt₀ lb₀)
    c.write_header.ensures
    (then x body_at (T ++ B) S gap_at
    (then x body_at T B boxes_at c.write_codes.ensures c.write_codes-2.ensures (omega arith) (omega arith))
    c.write_settings.ensures (omega arith) (omega arith))
    c.write_trailer.ensures c.write_sum.ensures
    ∙ ap (λ (m : ℕ). packet_of rate_application c.args.stamp (rate_body m totals boxes c.args.body.settings c.args.body.sum))
    (sym c.requires.mark_value)
