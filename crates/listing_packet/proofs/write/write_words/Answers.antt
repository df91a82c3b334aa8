-- `write_words` puts the tables' bytes and zeros behind them: the packet's piece.
use Rattle.listing_packet.proofs.ListingLaws.{words_written}
use Rattle.listing_packet.proofs.write.write_words.Goals as goal

pub returns : goal.returns
returns c =
    let h = c.requires in
    words_written c.args.i h.1 c.args.tables.now c.told-tables c.args.part.now c.piece_size-n.result
    c.piece_size-n.ensures.0 h.0 c.put_bytes.ensures c.put_zeros.ensures
