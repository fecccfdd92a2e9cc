use Rattle.saved_state.proofs.tables.collections_stand.Goals as goal
use Rattle.saved_state.proofs.Maps as maps

pub returns : goal.returns
returns c = maps.collections_stand
