use Rattle.plain_soundness.proofs.Gicr.{gicr_read_keeps}
use Rattle.plain_soundness.proofs.calls.gicr_read_keeps_soundness.Goals as goal

pub returns : goal.returns
returns c = gicr_read_keeps
