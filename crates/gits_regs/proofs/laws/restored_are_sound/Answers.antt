use Rattle.gits_regs.proofs.Kept.{restored_keeps}
use Rattle.gits_regs.proofs.laws.restored_are_sound.Goals as goal

pub returns : goal.returns
returns c = restored_keeps
