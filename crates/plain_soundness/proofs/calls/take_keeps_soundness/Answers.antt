use Rattle.plain_soundness.proofs.Answers.{take_keeps}
use Rattle.plain_soundness.proofs.calls.take_keeps_soundness.Goals as goal

pub returns : goal.returns
returns c = take_keeps
