use Rattle.saved_state.proofs.memory.read_areas_stay.Goals as goal
use Rattle.saved_state.proofs.Apart as apart

pub returns : goal.returns
returns c = apart.read_stays
