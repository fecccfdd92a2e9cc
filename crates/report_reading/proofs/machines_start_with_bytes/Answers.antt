use Rattle.report_reading.proofs.Start.{start_bytes}
use Rattle.report_reading.proofs.machines_start_with_bytes.Goals as goal

pub returns : goal.returns
returns c = start_bytes
