use Rattle.plain_soundness.proofs.Run.{unmapc_keeps}
use Rattle.plain_soundness.proofs.commands.unmapc_keeps_soundness.Goals as goal

pub returns : goal.returns
returns c = unmapc_keeps
