use Rattle.gicr_regs.proofs.Split.{looks_away}
use Rattle.gicr_regs.proofs.laws.writes_look_away.Goals as goal

-- src/laws.rt
pub returns : goal.returns
returns c = looks_away
