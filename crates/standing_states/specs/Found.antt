-- What the walks of a restore find, and the maps that it goes into.
use Rattle.std.specs.Prelude.{◌≡◌, ◌<◌, ℕ, ◌+◌, ◌-◌, ◌*◌, ◌^◌, true, false, nat_le, if◌then◌else◌, List, [], ◌∷◌, Option, Some, None, Result, Ok, is_some}
use Rattle.std.specs.Option.{ok_or}
use Rattle.guest_windows.specs.Windows.{Window, number_at}
use Rattle.gits_regs.specs.Registers.{Registers, is_valid, is_indirect, collection_places}
use Rattle.baser_place.specs.Places.{level1_entries}
use Rattle.table_entries.specs.Fields.{DeviceFields, CollectionFields}
use Rattle.its_types.specs.Maps.{Maps, no_maps, device_mapped, event_mapped, collection_mapped, collection_of}
use Rattle.its_types.specs.declared.ids.Vcpu.{Vcpu}
use Rattle.its_types.specs.declared.machine.Shape.{Shape}
use Rattle.its_types.specs.declared.translation.Device.{Device}
use Rattle.its_types.specs.declared.translation.Event.{Event}
use Rattle.its_plain.specs.Walks.{ensure, ◌>>=◌}
use Rattle.its_plain.specs.EventTables.{Itt, itt_of, event_check, event_in, next_event}
use Rattle.its_plain.specs.CollectionTables.{collection_check, collection_entry, next_collection, stands_before}
use Rattle.its_plain.specs.DeviceTables.{DevicePlace, at_level1, at_entry, first_device, flat_size, page_places, id_of, index_of, device_address}
use Rattle.its_plain.specs.DeviceTables.{device_entry}
use Rattle.its_plain.specs.DeviceTables.{device_of_fields, ends_well, next_device}
use Rattle.its_plain.specs.declared.fault.Table.TheVariants.{Devices}
use Rattle.its_plain.specs.declared.fault.RestoreFault.{RestoreFault}
use Rattle.its_plain.specs.declared.fault.RestoreFault.TheVariants.{OutsideTable, BadSize, PastEnd}
use Rattle.standing_states.specs.Walked.{walk, after_all, after}

-- ---- events

abbrev pub one_event : ℕ → Option Event → List (ℕ × Event)
one_event ev None = []
one_event ev (Some e) = (ev, e) ∷ []

abbrev pub look_event : List Window → ℕ → Itt → ℕ → Result (List (ℕ × Event)) RestoreFault
look_event memory lpi_bits t ev = event_check memory lpi_bits t ev >>= λ _. Ok (one_event ev (event_in memory t ev))

-- from a place on
abbrev pub events_from : List Window → ℕ → Itt → ℕ → Result (List (ℕ × Event)) RestoreFault
events_from memory lpi_bits t ev = walk (look_event memory lpi_bits t) (next_event memory t) (t.places - ev) ev

abbrev pub events_read : List Window → ℕ → Itt → Result (List (ℕ × Event)) RestoreFault
events_read memory lpi_bits t = events_from memory lpi_bits t 0

abbrev pub put_event : ℕ → Maps → ℕ × Event → Maps
put_event dev m e = event_mapped m dev e.0 e.1

-- ---- collections

abbrev pub one_collection : Option CollectionFields → List (ℕ × Vcpu)
one_collection None = []
one_collection (Some c) = (c.icid, record { 0 = c.vcpu_number }) ∷ []

abbrev pub look_collection : Shape → List Window → Registers → ℕ → Result (List (ℕ × Vcpu)) RestoreFault
look_collection s memory r i = collection_check s memory r i >>= λ _. Ok (one_collection (collection_entry s memory r i))

abbrev pub collections_from : Shape → List Window → Registers → ℕ → Result (List (ℕ × Vcpu)) RestoreFault
collections_from s memory r i = walk (look_collection s memory r) (next_collection memory r) (collection_places r - i) i

abbrev pub collections_read : Shape → List Window → Registers → Result (List (ℕ × Vcpu)) RestoreFault
collections_read s memory r = if is_valid r.baser1 then collections_from s memory r 0 else Ok []

abbrev pub put_collection : Maps → ℕ × Vcpu → Maps
put_collection m c = collection_mapped m c.0 c.1

-- just the collections of the first n places are mapped
abbrev pub AreThoseBefore : Shape → List Window → Registers → Maps → ℕ → Type 0
AreThoseBefore s memory r m n = (icid : ℕ) → is_some (collection_of m icid) ≡ stands_before s memory r n icid

-- ---- devices

-- a device with its events
pub record Found : Type 0 where
  pub dev : ℕ
  pub device : Device
  pub events : List (ℕ × Event)

abbrev pub found_at : List Window → ℕ → Registers → DevicePlace → Option DeviceFields → Result (List Found) RestoreFault
found_at memory lpi_bits r p None = Ok []
found_at memory lpi_bits r p (Some e) = do
  _ ← ensure (nat_le e.bits 16) (BadSize (record { 0 = id_of p }))
  events ← events_read memory lpi_bits (itt_of (id_of p) (device_of_fields e))
  _ ← ensure (ends_well r (index_of p) e.next) (PastEnd Devices (id_of p) e.next)
  Ok (record { dev = id_of p; device = device_of_fields e; events = events } ∷ [])

abbrev pub look_device : List Window → ℕ → Registers → DevicePlace → Result (List Found) RestoreFault
look_device memory lpi_bits r p = do
  _ ← ok_or (number_at memory (device_address r p)) (OutsideTable (record { 0 = device_address r p }))
  found_at memory lpi_bits r p (device_entry memory p)

-- a place that the table has
abbrev pub IsPlace : Registers → DevicePlace → Type 0
IsPlace r (at_level1 k) = (is_indirect r.baser0 ≡ true) × (k < level1_entries r.dev_bits) × (k < 128)
IsPlace r (at_entry k page index) =
    (page < 2 ^ 52) × (index < page_places r) × (is_indirect r.baser0 ≡ true → k < level1_entries r.dev_bits) × (is_indirect r.baser0 ≡ false → k ≡ 0)
    × (k < 128) × (index < 1048576)

-- how far a place is
abbrev pub rank : DevicePlace → ℕ
rank (at_level1 k) = 8193 * k
rank (at_entry k page index) = 8193 * k + 1 + index

-- how far the walk can come
abbrev pub reach : Registers → ℕ
reach r = if is_indirect r.baser0 then 8193 * level1_entries r.dev_bits else 1 + flat_size r

abbrev pub devices_from : List Window → ℕ → Registers → DevicePlace → Result (List Found) RestoreFault
devices_from memory lpi_bits r p = walk (look_device memory lpi_bits r) (next_device memory r) (reach r - rank p) p

abbrev pub devices_read : List Window → ℕ → Registers → Result (List Found) RestoreFault
devices_read memory lpi_bits r = if is_valid r.baser0 then devices_from memory lpi_bits r (first_device r) else Ok []

abbrev pub put_found : Maps → Found → Maps
put_found m x = after_all (put_event x.dev) (device_mapped m x.dev x.device) x.events

-- ---- all maps

abbrev pub maps_read : Shape → List Window → Registers → Result Maps RestoreFault
maps_read s memory r = after put_collection no_maps (collections_read s memory r) >>= λ m. after put_found m (devices_read memory s.lpi_bits r)
