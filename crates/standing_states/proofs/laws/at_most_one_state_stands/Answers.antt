use Rattle.standing_states.proofs.Once.{stands_once}
use Rattle.standing_states.proofs.laws.at_most_one_state_stands.Goals as goal

pub returns : goal.returns
returns c = stands_once
