use Rattle.plain_soundness.proofs.Run.{unmapd_keeps}
use Rattle.plain_soundness.proofs.commands.unmapd_keeps_soundness.Goals as goal

pub returns : goal.returns
returns c = unmapd_keeps
