-- What is true of what a handle has.
use Rattle.std.specs.Prelude.{◌≤◌, length}
use Rattle.dma_routes.specs.Routes.{AreDevices}
use Rattle.its_c.specs.Keeping.{Held}
use Rattle.its_c.specs.declared.kept.Kept.TheInside.{Inside}

abbrev pub held_of : Inside → Held
held_of k = record { machine = k.machine; desc = k.desc; limits = k.limits; routes = k.routes; counters = k.counters }

pub record IsKept (k : Inside) : Type 0 where
  pub translators : length k.desc.translators ≤ 2
  pub devices : AreDevices k.desc.requesters
