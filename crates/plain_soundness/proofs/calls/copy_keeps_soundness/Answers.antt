use Rattle.plain_soundness.proofs.Answers.{copy_keeps}
use Rattle.plain_soundness.proofs.calls.copy_keeps_soundness.Goals as goal

pub returns : goal.returns
returns c = copy_keeps
