use Rattle.std.proofs.Common.{length, ap, ◌∙◌}
use Rattle.std.specs.FinMap as finmap
use Rattle.its_maps.proofs.Counted.{events_counted}
use Rattle.its_maps.proofs.maps.Maps.event_count.Goals as goal

pub returns : goal.returns
returns c =
    events_counted c.self.inside.counts c.self.inside.devices.map c.self.inside.collections.map c.self.invariant.1
    ∙ ap (λ m. length (finmap.entries m.maps.events)) c.self.view_is
