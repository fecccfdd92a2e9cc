use Rattle.its_migrate.proofs.Beside.{running_as_stopped}
use Rattle.its_migrate.proofs.laws.running_as_stopped.Goals as goal

pub returns : goal.returns
returns c = running_as_stopped
