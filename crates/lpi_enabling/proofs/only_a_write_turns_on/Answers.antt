use Rattle.lpi_enabling.proofs.Calls.{only_a_write}
use Rattle.lpi_enabling.proofs.only_a_write_turns_on.Goals as goal

pub returns : goal.returns
returns c = only_a_write
