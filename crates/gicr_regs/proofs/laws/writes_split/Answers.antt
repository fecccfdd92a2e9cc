use Rattle.gicr_regs.proofs.Split.{split}
use Rattle.gicr_regs.proofs.laws.writes_split.Goals as goal

-- src/laws.rt
pub returns : goal.returns
returns c = split
