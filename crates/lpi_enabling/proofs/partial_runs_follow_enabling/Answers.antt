use Rattle.lpi_enabling.proofs.Runs.{partial_runs_follow}
use Rattle.lpi_enabling.proofs.partial_runs_follow_enabling.Goals as goal

pub returns : goal.returns
returns c = partial_runs_follow
