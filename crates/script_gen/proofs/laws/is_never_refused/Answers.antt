use Rattle.script_gen.proofs.Start.{never_refused}
use Rattle.script_gen.proofs.laws.is_never_refused.Goals as goal

pub returns : goal.returns
returns c = never_refused
