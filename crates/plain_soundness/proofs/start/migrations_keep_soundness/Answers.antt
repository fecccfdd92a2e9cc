use Rattle.plain_soundness.proofs.Migrated.{migrations_keep}
use Rattle.plain_soundness.proofs.start.migrations_keep_soundness.Goals as goal

pub returns : goal.returns
returns c = migrations_keep
