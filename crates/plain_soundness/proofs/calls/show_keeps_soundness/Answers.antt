use Rattle.plain_soundness.proofs.Answers.{show_keeps}
use Rattle.plain_soundness.proofs.calls.show_keeps_soundness.Goals as goal

pub returns : goal.returns
returns c = show_keeps
