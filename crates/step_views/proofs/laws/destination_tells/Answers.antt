use Rattle.step_views.proofs.Told.{told}
use Rattle.step_views.proofs.laws.destination_tells.Goals as goal

pub returns : goal.returns
returns c = told
