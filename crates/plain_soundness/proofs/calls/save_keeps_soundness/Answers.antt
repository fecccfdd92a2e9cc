use Rattle.plain_soundness.proofs.Migrated.{saves_keep}
use Rattle.plain_soundness.proofs.calls.save_keeps_soundness.Goals as goal

pub returns : goal.returns
returns c = saves_keep
