use Rattle.plain_soundness.proofs.Answers.{best_keeps}
use Rattle.plain_soundness.proofs.calls.best_keeps_soundness.Goals as goal

pub returns : goal.returns
returns c = best_keeps
