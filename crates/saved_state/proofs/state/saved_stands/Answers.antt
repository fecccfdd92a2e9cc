use Rattle.saved_state.proofs.state.saved_stands.Goals as goal
use Rattle.saved_state.proofs.Whole as whole

pub returns : goal.returns
returns c = whole.saved_stands
