use Rattle.plain_soundness.proofs.Run.{movall_keeps}
use Rattle.plain_soundness.proofs.commands.movall_keeps_soundness.Goals as goal

pub returns : goal.returns
returns c = movall_keeps
