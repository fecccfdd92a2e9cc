use Rattle.std.proofs.Common.{ap, ◌∙◌}
use Rattle.std.specs.FinMap.{find}
use Rattle.its_types.specs.Maps.{Maps, pair_cmp, event_of}
use Rattle.plain_machine.proofs.Entries.{got, pair_total, pair_exact}
use Rattle.plain_machine.proofs.maps.MapLists.event.Goals as goal

pub returns : goal.returns
returns c = c.find.ensures ∙ ap (find pair_cmp (c.args.dev.0, c.args.ev.0)) c.deref.ensures.value
    ∙ got pair_cmp pair_total pair_exact c.self.inside.events.items (c.args.dev.0, c.args.ev.0) c.self.invariant.events
    ∙ ap (λ (m : Maps). event_of m c.args.dev.0 c.args.ev.0) c.self.view_is
