use Rattle.plain_machine.proofs.Entries.{listed_events}
use Rattle.plain_machine.proofs.maps.MapLists.event_after.Goals as goal

pub returns : goal.returns
returns c = rw (← c.self.view_is, listed_events c.self.inside c.self.invariant, ← c.deref.ensures.value) c.event_after.ensures
