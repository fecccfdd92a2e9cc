use Rattle.plain_soundness.proofs.Answers.{peek_keeps}
use Rattle.plain_soundness.proofs.calls.peek_keeps_soundness.Goals as goal

pub returns : goal.returns
returns c = peek_keeps
