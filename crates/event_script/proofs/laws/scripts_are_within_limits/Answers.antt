use Rattle.event_script.proofs.Bounds.{scripts_fit}
use Rattle.event_script.proofs.laws.scripts_are_within_limits.Goals as goal

pub returns : goal.returns
returns c = scripts_fit
