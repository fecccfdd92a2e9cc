use Rattle.its_migrate.proofs.Beside.{nothing_else}
use Rattle.its_migrate.proofs.laws.copies_change_nothing_else.Goals as goal

pub returns : goal.returns
returns c = nothing_else
