use Rattle.std.proofs.Common.{None}
use Rattle.table_save.proofs.thin.saved_of.Goals as goal

pub saved_pages-requires-clause-sound : goal.saved_pages-requires-clause-sound
saved_pages-requires-clause-sound c = (None, c.requires.sound)
