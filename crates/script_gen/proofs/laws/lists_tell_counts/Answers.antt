use Rattle.script_gen.proofs.Passes.{tell_counts}
use Rattle.script_gen.proofs.laws.lists_tell_counts.Goals as goal

pub returns : goal.returns
returns c = tell_counts
