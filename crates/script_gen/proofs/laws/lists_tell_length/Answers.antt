use Rattle.script_gen.proofs.Passes.{tell_length}
use Rattle.script_gen.proofs.laws.lists_tell_length.Goals as goal

pub returns : goal.returns
returns c = tell_length
