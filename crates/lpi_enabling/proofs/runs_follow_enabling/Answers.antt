use Rattle.lpi_enabling.proofs.Runs.{runs_follow}
use Rattle.lpi_enabling.proofs.runs_follow_enabling.Goals as goal

pub returns : goal.returns
returns c = runs_follow
