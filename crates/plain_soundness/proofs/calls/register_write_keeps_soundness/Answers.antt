use Rattle.plain_soundness.proofs.Answers.{register_write_keeps}
use Rattle.plain_soundness.proofs.calls.register_write_keeps_soundness.Goals as goal

pub returns : goal.returns
returns c = register_write_keeps
