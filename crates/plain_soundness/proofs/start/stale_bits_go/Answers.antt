use Rattle.plain_soundness.proofs.Stale.{stale_bits}
use Rattle.plain_soundness.proofs.start.stale_bits_go.Goals as goal

pub returns : goal.returns
returns c = stale_bits
