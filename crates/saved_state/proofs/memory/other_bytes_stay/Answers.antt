use Rattle.saved_state.proofs.memory.other_bytes_stay.Goals as goal
use Rattle.saved_state.proofs.Apart as apart

pub returns : goal.returns
returns c = apart.others_stay
