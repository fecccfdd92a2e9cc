-- The maps that plain lists of entries stand for.
use Rattle.std.specs.Ordering.{nat_cmp}
use Rattle.std.specs.FinMap.{from_sorted, is_sorted}
use lib.Dec.{T}
use Rattle.its_types.specs.Maps.{Maps, pair_cmp}
use Rattle.plain_machine.specs.declared.maps.MapLists.TheInside.{Inside}

-- the keys of each list rise
pub record Rise (m : Inside) : Type 0 where
  pub devices : T (is_sorted nat_cmp m.devices.items)
  pub events : T (is_sorted pair_cmp m.events.items)
  pub collections : T (is_sorted nat_cmp m.collections.items)

abbrev pub maps_of_lists : Inside → Maps
maps_of_lists m = record { devices = from_sorted m.devices.items; events = from_sorted m.events.items; collections = from_sorted m.collections.items }
