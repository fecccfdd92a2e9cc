use Rattle.report_places.specs.Lists.{queue_text}
use Rattle.report_places.proofs.Texts.{onto}
use Rattle.report_places.proofs.listing.push_queue.Goals as goal

pub returns : goal.returns
unfolding queue_text
returns c = onto c.push_offsets.result _ _ _ _ _ c.in_ok-push_read.ensures c.push_offsets.ensures
