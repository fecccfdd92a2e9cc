use Rattle.report_reading.proofs.Calls.{migrations_bytes}
use Rattle.report_reading.proofs.migrations_keep_bytes.Goals as goal

pub returns : goal.returns
returns c = migrations_bytes
