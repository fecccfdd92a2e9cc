use Rattle.plain_soundness.proofs.Answers.{register_read_keeps}
use Rattle.plain_soundness.proofs.calls.register_read_keeps_soundness.Goals as goal

pub returns : goal.returns
returns c = register_read_keeps
