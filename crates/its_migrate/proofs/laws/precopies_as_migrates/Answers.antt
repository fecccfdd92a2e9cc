use Rattle.its_migrate.proofs.Moving.{alike}
use Rattle.its_migrate.proofs.laws.precopies_as_migrates.Goals as goal

pub returns : goal.returns
returns c = alike
