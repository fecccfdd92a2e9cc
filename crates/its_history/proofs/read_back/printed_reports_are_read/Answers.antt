use Rattle.its_history.proofs.ReadAgain.{reports_again}
use Rattle.its_history.proofs.read_back.printed_reports_are_read.Goals as goal

pub returns : goal.returns
returns c = reports_again
