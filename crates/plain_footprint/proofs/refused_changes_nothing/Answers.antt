use Rattle.plain_footprint.proofs.Refused.{refused_leaves}
use Rattle.plain_footprint.proofs.refused_changes_nothing.Goals as goal

pub returns : goal.returns
returns c = refused_leaves
