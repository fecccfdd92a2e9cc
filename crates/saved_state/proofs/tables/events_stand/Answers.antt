use Rattle.saved_state.proofs.tables.events_stand.Goals as goal
use Rattle.saved_state.proofs.Maps as maps

pub returns : goal.returns
returns c = maps.events_stand
