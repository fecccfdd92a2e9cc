-- The maps of a translator (IHI 0069, section 5.2): its devices, their events, and its collections.
use Rattle.std.specs.Prelude.{ℕ, Bool, not, ◌&&◌, ◌==◌, Option, List, filter, refl}
use Rattle.std.specs.Prelude.{map as map_list}
use Rattle.std.specs.Ordering.{nat_cmp, ordering_then}
use Rattle.std.specs.declared.cmp.Ordering.{Ordering}
use Rattle.std.specs.FinMap as map
use Rattle.std.specs.FinMap.{FinMap}
use Rattle.std.specs.Coded.{Coded, code_by, coded×, coded_ℕ}
use Rattle.its_types.specs.declared.ids.Vcpu.{Vcpu}
use Rattle.its_types.specs.declared.translation.Device.{Device}
use Rattle.its_types.specs.declared.translation.Event.{Event}

-- a pair of DeviceID and EventID, by the device and then by the event
abbrev pub pair_cmp : ℕ × ℕ → ℕ × ℕ → Ordering
pair_cmp a b = ordering_then (nat_cmp a.0 b.0) (nat_cmp a.1 b.1)

pub record Maps : Type 0 where
  -- by DeviceID
  pub devices : FinMap nat_cmp Device
  -- by DeviceID and EventID
  pub events : FinMap pair_cmp Event
  -- by ICID, the virtual processor that a collection is mapped to
  pub collections : FinMap nat_cmp Vcpu

abbrev pub device_of : Maps → ℕ → Option Device
device_of m dev = map.get m.devices dev

abbrev pub event_of : Maps → ℕ → ℕ → Option Event
event_of m dev ev = map.get m.events (dev, ev)

abbrev pub collection_of : Maps → ℕ → Option Vcpu
collection_of m icid = map.get m.collections icid

abbrev pub no_maps : Maps
no_maps = record { devices = map.empty; events = map.empty; collections = map.empty }

-- the events of all other devices
abbrev pub events_but : Maps → ℕ → FinMap pair_cmp Event
events_but m dev = map.retain_keys m.events (λ k. not (k.0 == dev))

-- a device that is mapped again has no event
abbrev pub device_mapped : Maps → ℕ → Device → Maps
device_mapped m dev device = record m { devices = map.insert m.devices dev device; events = events_but m dev }

-- a device takes its events with it
abbrev pub device_unmapped : Maps → ℕ → Maps
device_unmapped m dev = record m { devices = map.retain_keys m.devices (λ k. not (k == dev)); events = events_but m dev }

abbrev pub event_mapped : Maps → ℕ → ℕ → Event → Maps
event_mapped m dev ev event = record m { events = map.insert m.events (dev, ev) event }

-- the key of one event
abbrev pub is_pair : ℕ → ℕ → ℕ × ℕ → Bool
is_pair dev ev k = k.0 == dev && k.1 == ev

abbrev pub event_unmapped : Maps → ℕ → ℕ → Maps
event_unmapped m dev ev = record m { events = map.retain_keys m.events (λ k. not (is_pair dev ev k)) }

abbrev pub collection_mapped : Maps → ℕ → Vcpu → Maps
collection_mapped m icid vcpu = record m { collections = map.insert m.collections icid vcpu }

abbrev pub collection_unmapped : Maps → ℕ → Maps
collection_unmapped m icid = record m { collections = map.retain_keys m.collections (λ k. not (k == icid)) }

abbrev pub devices_emptied : Maps → Maps
devices_emptied m = record m { devices = map.empty; events = map.empty }

abbrev pub collections_emptied : Maps → Maps
collections_emptied m = record m { collections = map.empty }

-- the events of one device, by EventID
abbrev pub events_at : Maps → ℕ → List (ℕ × Event)
events_at m dev = map_list (λ e. (e.0.1, e.1)) (filter (λ e. e.0.0 == dev) (map.entries m.events))

-- ---- a code for each part, by which models tell values apart

abbrev pub vcpu_code : Coded Vcpu
vcpu_code = code_by ℕ coded_ℕ (λ v. v.0) (λ n. record { 0 = n }) (λ _. refl)

abbrev pub device_code : Coded Device
device_code = code_by (ℕ × ℕ) (coded× coded_ℕ coded_ℕ) (λ d. (d.itt.0, d.bits)) (λ p. record { itt = record { 0 = p.0 }; bits = p.1 }) (λ _. refl)

abbrev pub event_code : Coded Event
event_code = code_by (ℕ × ℕ) (coded× coded_ℕ coded_ℕ) (λ e. (e.intid.0, e.icid.0)) (λ p. record { intid = record { 0 = p.0 }; icid = record { 0 = p.1 } })
    (λ _. refl)

abbrev Parts : Type 0
Parts = FinMap nat_cmp Device × (FinMap pair_cmp Event × FinMap nat_cmp Vcpu)

abbrev coded_parts : Coded Parts
coded_parts = coded× (map.code coded_ℕ device_code) (coded× (map.code (coded× coded_ℕ coded_ℕ) event_code) (map.code coded_ℕ vcpu_code))

abbrev pub maps_code : Coded Maps
maps_code = code_by Parts coded_parts (λ m. (m.devices, (m.events, m.collections))) (λ p. record { devices = p.0; events = p.1.0; collections = p.1.1 })
    (λ _. refl)
