use Rattle.plain_soundness.proofs.Run.{mapti_keeps}
use Rattle.plain_soundness.proofs.commands.mapti_keeps_soundness.Goals as goal

pub returns : goal.returns
returns c = mapti_keeps
