use Rattle.its_history.proofs.Printed.{reports_print}
use Rattle.its_history.proofs.read_back.read_reports_print.Goals as goal

pub returns : goal.returns
returns c = reports_print
