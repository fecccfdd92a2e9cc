use Rattle.lpi_enabling.proofs.Calls.{migrations_keep}
use Rattle.lpi_enabling.proofs.migrations_keep_on.Goals as goal

pub returns : goal.returns
returns c = migrations_keep
