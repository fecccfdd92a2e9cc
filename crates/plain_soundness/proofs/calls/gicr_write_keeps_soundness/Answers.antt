use Rattle.plain_soundness.proofs.Gicr.{gicr_write_keeps}
use Rattle.plain_soundness.proofs.calls.gicr_write_keeps_soundness.Goals as goal

pub returns : goal.returns
returns c = gicr_write_keeps
