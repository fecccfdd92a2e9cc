use Rattle.step_views.proofs.OverStep.{lent_agree}
use Rattle.step_views.proofs.laws.lent_steps_agree.Goals as goal

pub returns : goal.returns
returns c = lent_agree
