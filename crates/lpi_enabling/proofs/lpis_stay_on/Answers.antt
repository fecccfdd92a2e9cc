use Rattle.lpi_enabling.proofs.Calls.{stay_on, turned_off, taken_where_on}
use Rattle.lpi_enabling.proofs.lpis_stay_on.Goals as goal

pub returns : goal.returns
returns c = record { stay = stay_on; off = turned_off; taken = taken_where_on }
