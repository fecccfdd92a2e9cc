use Rattle.step_views.proofs.OfMachine.{low_tables}
use Rattle.step_views.proofs.reading.event_bytes.Goals as goal

pub bytes-requires-clause-low : goal.bytes-requires-clause-low
bytes-requires-clause-low c = low_tables c.args.parts.now c.requires
