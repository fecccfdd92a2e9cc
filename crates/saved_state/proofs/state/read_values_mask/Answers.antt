use Rattle.saved_state.proofs.state.read_values_mask.Goals as goal
use Rattle.saved_state.proofs.Values as values

pub returns : goal.returns
returns c = values.read_values_mask
