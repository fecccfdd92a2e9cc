use Rattle.event_script.proofs.Bounds.{checked_scripts_fit}
use Rattle.event_script.proofs.laws.checked_scripts_are_within_limits.Goals as goal

pub returns : goal.returns
returns c = checked_scripts_fit
