-- What is mapped, from a number on, as it is told in lists.
use Rattle.std.specs.Prelude.{ℕ, List, map, nat_le}
use Rattle.std.specs.FinMap.{entries}
use Rattle.std.specs.List.{filter}
use Rattle.its_types.specs.Maps.{Maps, events_at}
use Rattle.its_types.specs.declared.ids.Vcpu.{Vcpu}
use Rattle.its_types.specs.declared.translation.Device.{Device}
use Rattle.its_types.specs.declared.translation.Event.{Event}
use Rattle.its_numbers.specs.declared.mapped.CollectionOut.{CollectionOut}
use Rattle.its_numbers.specs.declared.mapped.DeviceOut.{DeviceOut}
use Rattle.its_numbers.specs.declared.mapped.MappingOut.{MappingOut}

-- those whose number isn't below another
abbrev pub from_on : {A : Type 0} → ℕ → List (ℕ × A) → List (ℕ × A)
from_on n items = filter (λ x. nat_le n x.0) items

abbrev pub device_out : ℕ × Device → DeviceOut
device_out d = record { device = d.0; event_bits = d.1.bits; itt = d.1.itt.0 }

abbrev pub mapping_out : ℕ × Event → MappingOut
mapping_out e = record { event = e.0; intid = e.1.intid.0; collection = e.1.icid.0 }

abbrev pub collection_out : ℕ × Vcpu → CollectionOut
collection_out c = record { collection = c.0; vcpu = c.1.0 }

-- the mapped devices from a DeviceID on, by rising DeviceID
abbrev pub devices_from : Maps → ℕ → List DeviceOut
devices_from m n = map device_out (from_on n (entries m.devices))

-- the mapped events of a device from an EventID on, by rising EventID
abbrev pub mappings_from : Maps → ℕ → ℕ → List MappingOut
mappings_from m dev n = map mapping_out (from_on n (events_at m dev))

-- the mapped collections from an ICID on, by rising ICID
abbrev pub collections_from : Maps → ℕ → List CollectionOut
collections_from m n = map collection_out (from_on n (entries m.collections))
