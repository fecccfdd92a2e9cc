use Rattle.saved_state.proofs.state.only_that_state_stands.Goals as goal
use Rattle.saved_state.proofs.Restored as restored

pub returns : goal.returns
returns c = restored.only_that
