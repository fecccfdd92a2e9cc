use Rattle.its_steps.proofs.First.{first}
use Rattle.its_steps.proofs.laws.first_is_good.Goals as goal

pub returns : goal.returns
returns c = first
