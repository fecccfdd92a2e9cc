use Rattle.gits_regs.proofs.Kept.{write_keeps}
use Rattle.gits_regs.proofs.laws.write_keeps_rules.Goals as goal

pub returns : goal.returns
returns c = write_keeps
