use Rattle.script_gen.proofs.Start.{makes_machine}
use Rattle.script_gen.proofs.laws.makes_machine.Goals as goal

pub returns : goal.returns
returns c = makes_machine
