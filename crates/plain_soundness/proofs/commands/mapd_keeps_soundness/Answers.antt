use Rattle.plain_soundness.proofs.Run.{mapd_keeps}
use Rattle.plain_soundness.proofs.commands.mapd_keeps_soundness.Goals as goal

pub returns : goal.returns
returns c = mapd_keeps
