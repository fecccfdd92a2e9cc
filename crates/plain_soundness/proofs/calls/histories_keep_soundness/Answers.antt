use Rattle.plain_soundness.proofs.Answers.{histories_keep}
use Rattle.plain_soundness.proofs.calls.histories_keep_soundness.Goals as goal

pub returns : goal.returns
returns c = histories_keep
