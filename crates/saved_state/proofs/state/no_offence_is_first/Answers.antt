use Rattle.saved_state.proofs.state.no_offence_is_first.Goals as goal
use Rattle.saved_state.proofs.Restored as restored

pub returns : goal.returns
returns c = restored.no_offence
