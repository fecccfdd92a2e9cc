use Rattle.plain_footprint.proofs.OtherParts.{other_parts}
use Rattle.plain_footprint.proofs.other_parts_stay.Goals as goal

pub returns : goal.returns
returns c = other_parts
