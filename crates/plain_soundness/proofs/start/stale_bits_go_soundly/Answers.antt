use Rattle.plain_soundness.proofs.Stale.{stale_go}
use Rattle.plain_soundness.proofs.start.stale_bits_go_soundly.Goals as goal

pub returns : goal.returns
returns c = stale_go
