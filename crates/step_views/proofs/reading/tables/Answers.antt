use Rattle.step_views.proofs.OfMachine.{low_tables}
use Rattle.step_views.proofs.reading.tables.Goals as goal

pub whole_tables-requires-clause-low : goal.whole_tables-requires-clause-low
whole_tables-requires-clause-low c = low_tables c.args.parts.now c.requires
