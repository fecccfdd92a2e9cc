use Rattle.plain_soundness.proofs.Run.{discard_keeps}
use Rattle.plain_soundness.proofs.commands.discard_keeps_soundness.Goals as goal

pub returns : goal.returns
returns c = discard_keeps
