use Rattle.saved_state.proofs.tables.redistributors_stand.Goals as goal
use Rattle.saved_state.proofs.Redistributors as redistributors

pub returns : goal.returns
returns c = redistributors.redistributors_stand
