use Rattle.plain_footprint.proofs.Decided.{decides}
use Rattle.plain_footprint.proofs.footprint_decides.Goals as goal

pub returns : goal.returns
returns c = decides
