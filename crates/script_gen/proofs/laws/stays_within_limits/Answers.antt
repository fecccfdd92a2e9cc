use Rattle.script_gen.proofs.Within.{within}
use Rattle.script_gen.proofs.laws.stays_within_limits.Goals as goal

pub returns : goal.returns
returns c = within
