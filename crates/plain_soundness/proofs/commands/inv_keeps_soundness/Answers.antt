use Rattle.plain_soundness.proofs.Run.{inv_keeps}
use Rattle.plain_soundness.proofs.commands.inv_keeps_soundness.Goals as goal

pub returns : goal.returns
returns c = inv_keeps
