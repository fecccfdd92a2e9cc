use Rattle.step_views.proofs.Added.{steps_add}
use Rattle.step_views.proofs.laws.steps_add_one.Goals as goal

pub returns : goal.returns
returns c = steps_add
