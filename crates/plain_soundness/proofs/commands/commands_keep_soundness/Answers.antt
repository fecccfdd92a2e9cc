use Rattle.plain_soundness.proofs.Run.{commands_keep}
use Rattle.plain_soundness.proofs.commands.commands_keep_soundness.Goals as goal

pub returns : goal.returns
returns c = commands_keep
