-- `write_samples` puts the record words from byte 11 on: the body of the sample packet.
use Rattle.std.proofs.Common.{ap, ◌∙◌, ℕ}
use Rattle.wire.specs.Bytes.{words}
use Rattle.packet.specs.Packet.{packet_of, sample_packet}
use Rattle.packet.proofs.Written.{length_sample_body, packet_written}
use Rattle.packet.proofs.write.write_samples.Goals as goal

pub returns : goal.returns
unfolding sample_packet
returns c =
    let records = c.args.records.now in
    packet_written c.args.part.now _ c.args.stamp (words records) c.requires.0 (length_sample_body records c.requires.1)
    c.write_header.ensures c.put_words.ensures c.write_trailer.ensures c.write_sum.ensures
    ∙ ap (λ (a : ℕ). packet_of a c.args.stamp (words records)) c.of_sample.ensures.0
