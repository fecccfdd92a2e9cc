use Rattle.std.proofs.Common.{length}
use Rattle.its_maps.specs.Walks.{events_left}
use Rattle.its_types.specs.Maps.{events_at}
use Rattle.its_explain.proofs.Counts.{all_counted}
use Rattle.its_explain.proofs.mapped.count_events_of.Goals as goal

pub returns : goal.returns
returns c =
    all_counted c.loop-ev.count (length (events_at c.args.maps.now.maps c.args.dev.0)) (events_left c.loop-ev._ev-iterator) c.loop-ev.invariant.fits
    c.in-None.ensures.steps.0 c.loop-ev.invariant.all
