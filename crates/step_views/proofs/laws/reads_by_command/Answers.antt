use Rattle.step_views.proofs.OverStep.{by_command}
use Rattle.step_views.proofs.laws.reads_by_command.Goals as goal

pub returns : goal.returns
returns c = by_command
