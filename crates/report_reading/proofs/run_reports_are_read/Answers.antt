use Rattle.report_reading.proofs.Reports.{run_reports}
use Rattle.report_reading.proofs.run_reports_are_read.Goals as goal

pub returns : goal.returns
returns c = run_reports
