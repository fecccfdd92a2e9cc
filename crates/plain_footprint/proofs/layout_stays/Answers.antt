use Rattle.plain_footprint.proofs.OtherParts.{layout_is}
use Rattle.plain_footprint.proofs.layout_stays.Goals as goal

pub returns : goal.returns
returns c = layout_is
