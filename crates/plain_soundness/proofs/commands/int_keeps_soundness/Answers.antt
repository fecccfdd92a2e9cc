use Rattle.plain_soundness.proofs.Run.{int_keeps}
use Rattle.plain_soundness.proofs.commands.int_keeps_soundness.Goals as goal

pub returns : goal.returns
returns c = int_keeps
