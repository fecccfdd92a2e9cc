use Rattle.step_views.proofs.OverStep.{reads_decide}
use Rattle.step_views.proofs.laws.step_reads.Goals as goal

pub returns : goal.returns
returns c = reads_decide
