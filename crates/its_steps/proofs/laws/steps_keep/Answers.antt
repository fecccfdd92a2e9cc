use Rattle.its_steps.proofs.Cores.{steps}
use Rattle.its_steps.proofs.laws.steps_keep.Goals as goal

pub returns : goal.returns
returns c = steps
