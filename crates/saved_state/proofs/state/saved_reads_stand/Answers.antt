use Rattle.saved_state.proofs.state.saved_reads_stand.Goals as goal
use Rattle.saved_state.proofs.Values as values

pub returns : goal.returns
returns c = values.reads_stand
