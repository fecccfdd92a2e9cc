use Rattle.owned_parts.specs.Owned.{track_at}
use Rattle.owned_machine.proofs.migrations.moved.Goals as goal

pub resumed-requires-clause-machine : goal.resumed-requires-clause-machine
resumed-requires-clause-machine c = (track_at c.args.parts.now, c.requires)

pub resumed-requires-clause-savable : goal.resumed-requires-clause-savable
resumed-requires-clause-savable c = c.in_ok-memory.ensures.0

pub resumed-requires-clause-saved : goal.resumed-requires-clause-saved
resumed-requires-clause-saved c = c.in_ok-memory.ensures.1
