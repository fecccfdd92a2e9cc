use Rattle.plain_machine.proofs.Entries.{listed_devices}
use Rattle.plain_machine.proofs.maps.MapLists.device_after.Goals as goal

pub returns : goal.returns
returns c = rw (← c.self.view_is, listed_devices c.self.inside c.self.invariant, ← c.deref.ensures.value) c.device_after.ensures
