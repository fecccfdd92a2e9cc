use Rattle.saved_state.proofs.memory.words_read_back.Goals as goal
use Rattle.saved_state.proofs.Apart as apart

pub returns : goal.returns
returns c = apart.words_back
