use Rattle.lpi_config.proofs.Chunks.{bit_of-priority}
use Rattle.lpi_config.proofs.least.priorities_below.Goals as goal

pub returns : goal.returns
returns c k lt = bit_of-priority c.args.bytes.now c.args.limit k c.told-bytes lt
