use Rattle.plain_soundness.proofs.Run.{clear_keeps}
use Rattle.plain_soundness.proofs.commands.clear_keeps_soundness.Goals as goal

pub returns : goal.returns
returns c = clear_keeps
