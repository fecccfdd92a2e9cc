use Rattle.step_views.proofs.SavedBytes.{saved_inside}
use Rattle.step_views.proofs.laws.saves_stay_inside.Goals as goal

pub returns : goal.returns
returns c = saved_inside
