use Rattle.gicr_regs.proofs.Kept.{kept}
use Rattle.gicr_regs.proofs.laws.writes_keep_bits.Goals as goal

-- src/laws.rt:5:1
pub returns : goal.returns
returns c = kept
