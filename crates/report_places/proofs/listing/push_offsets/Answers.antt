use Rattle.report_places.specs.Lists.{offsets_text}
use Rattle.report_places.proofs.Texts.{onto}
use Rattle.report_places.proofs.listing.push_offsets.Goals as goal

pub returns : goal.returns
unfolding offsets_text
returns c = onto c.push_read-2.result _ _ _ _ _ c.in_ok-push_read.ensures c.push_read-2.ensures
