use Rattle.lpi_enabling.proofs.Start.{start_off}
use Rattle.lpi_enabling.proofs.machines_start_off.Goals as goal

pub returns : goal.returns
returns c = start_off
