use Rattle.std.proofs.Common.{ap, ◌∙◌, arith}
use Rattle.its_maps.specs.Counting.{has_events}
use Rattle.its_maps.proofs.Counted.{names_shown}
use Rattle.its_maps.proofs.maps.Maps.has_events_of.Goals as goal

pub returns : goal.returns
returns c =
    c.has.ensures
    ∙ names_shown c.self.inside.counts c.self.inside.devices.map c.self.inside.collections.map c.self.invariant.1 c.args.icid.0 (omega arith)
    ∙ ap (λ m. has_events m.maps c.args.icid.0) c.self.view_is
