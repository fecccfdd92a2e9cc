use Rattle.plain_soundness.proofs.Run.{invall_keeps}
use Rattle.plain_soundness.proofs.commands.invall_keeps_soundness.Goals as goal

pub returns : goal.returns
returns c = invall_keeps
