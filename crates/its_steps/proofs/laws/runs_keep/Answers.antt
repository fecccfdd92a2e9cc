use Rattle.its_steps.proofs.Cores.{runs}
use Rattle.its_steps.proofs.laws.runs_keep.Goals as goal

pub returns : goal.returns
returns c = runs
