use Rattle.plain_soundness.proofs.Answers.{step_keeps}
use Rattle.plain_soundness.proofs.calls.step_keeps_soundness.Goals as goal

pub returns : goal.returns
returns c = step_keeps
