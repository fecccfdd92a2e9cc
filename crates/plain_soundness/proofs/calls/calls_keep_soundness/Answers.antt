use Rattle.plain_soundness.proofs.Answers.{calls_keep}
use Rattle.plain_soundness.proofs.calls.calls_keep_soundness.Goals as goal

pub returns : goal.returns
returns c = calls_keep
