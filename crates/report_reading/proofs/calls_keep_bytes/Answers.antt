use Rattle.report_reading.proofs.Calls.{calls_bytes}
use Rattle.report_reading.proofs.calls_keep_bytes.Goals as goal

pub returns : goal.returns
returns c = calls_bytes
