use Rattle.plain_footprint.proofs.SameParts.{same_parts}
use Rattle.plain_footprint.proofs.footprints_are_alike.Goals as goal

pub returns : goal.returns
returns c = same_parts
