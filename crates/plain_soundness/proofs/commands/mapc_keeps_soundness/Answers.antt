use Rattle.plain_soundness.proofs.Run.{mapc_keeps}
use Rattle.plain_soundness.proofs.commands.mapc_keeps_soundness.Goals as goal

pub returns : goal.returns
returns c = mapc_keeps
