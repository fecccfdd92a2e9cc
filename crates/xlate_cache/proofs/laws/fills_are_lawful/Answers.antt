use Rattle.xlate_cache.proofs.Lawful.{filled_lawful}
use Rattle.xlate_cache.proofs.laws.fills_are_lawful.Goals as goal

pub returns : goal.returns
returns c = filled_lawful
