use Rattle.lpi_config.proofs.Chunks.{bit_of-enabled}
use Rattle.lpi_config.proofs.enabled.enabled_word.Goals as goal

pub returns : goal.returns
returns c = bit_of-enabled c.args.bytes.now c.told-bytes
