use Rattle.lpi_config.proofs.Chunks.{bit_of-below}
use Rattle.lpi_config.proofs.least.numbers_below.Goals as goal

pub returns : goal.returns
returns c k lt = bit_of-below c.args.numbers.now c.args.limit k c.told-numbers lt
