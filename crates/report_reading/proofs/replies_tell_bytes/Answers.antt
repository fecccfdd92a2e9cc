use Rattle.report_reading.proofs.Calls.{replies_bytes}
use Rattle.report_reading.proofs.replies_tell_bytes.Goals as goal

pub returns : goal.returns
returns c = replies_bytes
