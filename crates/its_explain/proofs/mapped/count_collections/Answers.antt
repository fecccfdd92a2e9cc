use Rattle.std.proofs.Common.{length}
use Rattle.std.specs.FinMap.{entries}
use Rattle.its_explain.proofs.Counts.{all_counted}
use Rattle.its_explain.proofs.mapped.count_collections.Goals as goal

pub returns : goal.returns
returns c =
    all_counted c.loop-icid.count (length (entries c.args.maps.now.maps.collections)) c.loop-icid._icid-iterator c.loop-icid.invariant.fits
    c.in-None.ensures.steps.0 c.loop-icid.invariant.all
