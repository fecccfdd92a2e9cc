use Rattle.saved_state.proofs.Equal.{moved_equal}
use Rattle.saved_state.proofs.state.moved_is_equal.Goals as goal

pub returns : goal.returns
returns c = moved_equal
