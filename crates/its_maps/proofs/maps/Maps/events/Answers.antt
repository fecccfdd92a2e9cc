use Rattle.std.proofs.Common.{sym, ap, ◌∙◌}
use Rattle.its_types.specs.Maps.{events_at}
use Rattle.its_maps.proofs.Picked.{picked_events, events_or_none}
use Rattle.its_maps.proofs.maps.Maps.events.Goals as goal

pub returns-in-Some : goal.returns-in-Some
returns-in-Some c = c.walk.ensures ∙ sym (picked_events c.self.inside.devices.map c.args.dev.0 ∙ ap events_or_none (sym c.in-Some.ensures))
    ∙ ap (λ m. events_at m.maps c.args.dev.0) c.self.view_is

pub returns-in-None : goal.returns-in-None
returns-in-None c = c.new.ensures ∙ sym (picked_events c.self.inside.devices.map c.args.dev.0 ∙ ap events_or_none (sym c.in-None.ensures))
    ∙ ap (λ m. events_at m.maps c.args.dev.0) c.self.view_is
