-- A reading that is judged right has what `take_reading` requires.
use Rattle.std.proofs.Common.{sym}
use Rattle.take_reading.proofs.ReadingLaws.{reading_taken}
use Rattle.processor.proofs.reading.reading.Goals as goal

pub take_reading-requires : goal.take_reading-requires
take_reading-requires c = reading_taken c.args.state.now (sym c.in_ok-judge.ensures)
