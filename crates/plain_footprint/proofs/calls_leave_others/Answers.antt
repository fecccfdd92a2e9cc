use Rattle.plain_footprint.proofs.OtherParts.{leaves}
use Rattle.plain_footprint.proofs.calls_leave_others.Goals as goal

pub returns : goal.returns
returns c = leaves
