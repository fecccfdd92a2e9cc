use Rattle.plain_soundness.proofs.Run.{movi_keeps}
use Rattle.plain_soundness.proofs.commands.movi_keeps_soundness.Goals as goal

pub returns : goal.returns
returns c = movi_keeps
