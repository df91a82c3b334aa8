-- `pack` appends the eight fields one by one, which is the sum that `record_of` writes.
use Rattle.sample_record.specs.Record.{record_of}
use Rattle.sample_record.proofs.RecordLaws.{flag_is}
use Rattle.sample_record.proofs.pack.Goals as goal

pub returns : goal.returns
unfolding record_of
returns c = simp (
  c.append.ensures,
  c.append-x-6.ensures,
  c.append-x-5.ensures,
  c.append-x-4.ensures,
  c.append-x-3.ensures,
  c.append-x-2.ensures,
  c.append-x.ensures,
  c.from.ensures,
  c.from-2.ensures,
  c.from-3.ensures,
  c.from-4.ensures,
  c.from-5.ensures,
  c.from-6.ensures,
  c.from-7.ensures,
  c.from-8.ensures,
  flag_is,
)
