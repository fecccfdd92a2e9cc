-- What a restore reads in the device table, flat or of two levels, with the interrupt translation table of each device
-- (IHI 0069, section 12.19.1; KVM document arm-vgic-its, "ITS Table ABI REV0").
use Rattle.std.specs.Prelude.{◌≡◌, ◌<◌, ◌≤◌, ℕ, ◌+◌, ◌*◌, Bool, true, false, ◌&&◌, ◌||◌, ◌==◌, nat_lt, if◌then◌else◌, List, Option, Some, None, IsSome}
use Rattle.std.specs.Option.{option_and_then, option_map}
use Rattle.its_types.specs.Bits.{bit_of}
use Rattle.guest_windows.specs.Windows.{Window, number_at}
use Rattle.gits_regs.specs.Registers.{Registers, is_valid, is_indirect, table_base}
use Rattle.baser_place.specs.Places.{entry_address, level1_entries, level1_address, page_address}
use Rattle.table_entries.specs.Fields.{DeviceFields}
use Rattle.table_entries.specs.Words.{unpacked_device}
use Rattle.its_types.specs.declared.translation.Device.{Device}
use Rattle.its_types.specs.declared.translation.Event.{Event}
use Rattle.its_plain.specs.Regions.{device_pages}
use Rattle.its_plain.specs.Walks.{Reached, IsFirstOffence}
use Rattle.its_plain.specs.EventTables.{itt_of, IsIttClear, IttOffends, HasEvent}
use Rattle.its_plain.specs.declared.fault.Table.TheVariants.{Devices}
use Rattle.its_plain.specs.declared.fault.RestoreFault.{RestoreFault}
use Rattle.its_plain.specs.declared.fault.RestoreFault.TheVariants.{OutsideTable, BadSize, PastEnd}

-- ---- places

-- a place of the walk over a device table
pub data DevicePlace : Type 0 where
  -- entry k of the first level
  at_level1 : (k : ℕ) → DevicePlace
  -- an entry of the page of level-1 entry k; a flat table is as the page of entry 0
  at_entry : (k page index : ℕ) → DevicePlace

abbrev pub first_device : Registers → DevicePlace
first_device r = if is_indirect r.baser0 then at_level1 0 else at_entry 0 (table_base r.baser0) 0

-- how many DeviceIDs have a place in a flat table
unfoldable pub flat_size : Registers → ℕ
flat_size r = 8192 * device_pages r

-- how many places a page has, or the flat table
abbrev pub page_places : Registers → ℕ
page_places r = if is_indirect r.baser0 then 8192 else flat_size r

abbrev pub device_id : ℕ → ℕ → ℕ
device_id k index = 8192 * k + index

abbrev pub id_of : DevicePlace → ℕ
id_of (at_level1 k) = device_id k 0
id_of (at_entry k page index) = device_id k index

abbrev pub index_of : DevicePlace → ℕ
index_of (at_level1 k) = 0
index_of (at_entry k page index) = index

-- where its eight bytes stand
abbrev pub device_address : Registers → DevicePlace → ℕ
device_address r (at_level1 k) = level1_address r k
device_address r (at_entry k page index) = entry_address page index

-- ---- where a place leads

-- the level-1 entry after one
abbrev pub following : Registers → ℕ → Option DevicePlace
following r k = if is_indirect r.baser0 && nat_lt (k + 1) (level1_entries r.dev_bits) then Some (at_level1 (k + 1)) else None

-- a valid level-1 entry leads to the first place of its page, any other is passed over
abbrev pub level1_leads : Registers → ℕ → ℕ → Option DevicePlace
level1_leads r k word = if bit_of word 63 then Some (at_entry k (page_address word) 0) else following r k

-- a place of the page, or what comes after the page
abbrev pub goes_to : Registers → ℕ → ℕ → ℕ → Option DevicePlace
goes_to r k page index = if nat_lt index (page_places r) then Some (at_entry k page index) else following r k

-- an entry that isn't valid leads to the next place, and one that is leads `next` places on, or ends the walk where that is 0
abbrev pub device_leads : Registers → ℕ → ℕ → ℕ → Option DeviceFields → Option DevicePlace
device_leads r k page index None = goes_to r k page (index + 1)
device_leads r k page index (Some e) = if e.next == 0 then None else goes_to r k page (index + e.next)

abbrev pub word_leads : Registers → DevicePlace → ℕ → Option DevicePlace
word_leads r (at_level1 k) word = level1_leads r k word
word_leads r (at_entry k page index) word = device_leads r k page index (unpacked_device word)

abbrev pub next_device : List Window → Registers → DevicePlace → Option DevicePlace
next_device memory r p = option_and_then (word_leads r p) (number_at memory (device_address r p))

abbrev pub DeviceReached : List Window → Registers → DevicePlace → Type 0
DeviceReached memory r p = Reached (next_device memory r) (first_device r) p

-- ---- what a place has

-- a device's entry, where it is valid
abbrev pub device_entry : List Window → DevicePlace → Option DeviceFields
device_entry memory (at_level1 k) = None
device_entry memory (at_entry k page index) = option_and_then unpacked_device (number_at memory (entry_address page index))

abbrev pub device_of_fields : DeviceFields → Device
device_of_fields e = record { itt = record { 0 = e.itt }; bits = e.bits }

abbrev pub device_in : List Window → DevicePlace → Option Device
device_in memory p = option_map device_of_fields (device_entry memory p)

-- ---- faults

-- only in a flat table `next` can lead too far
abbrev pub ends_well : Registers → ℕ → ℕ → Bool
ends_well r index next = is_indirect r.baser0 || nat_lt (index + next) (flat_size r)

-- a place has no fault
pub record IsDeviceClear (memory : List Window) (lpi_bits : ℕ) (r : Registers) (p : DevicePlace) : Type 0 where
  pub inside : IsSome (number_at memory (device_address r p))
  pub size : (e : DeviceFields) → device_entry memory p ≡ Some e → e.bits ≤ 16
  pub itt : (e : DeviceFields) → device_entry memory p ≡ Some e → IsIttClear memory lpi_bits (itt_of (id_of p) (device_of_fields e))
  pub ends : (e : DeviceFields) → device_entry memory p ≡ Some e → ends_well r (index_of p) e.next ≡ true

-- the first fault of a place
pub data DeviceFaults (memory : List Window) (lpi_bits : ℕ) (r : Registers) (p : DevicePlace) : RestoreFault → Type 0 where
  is_outside : number_at memory (device_address r p) ≡ None → DeviceFaults memory lpi_bits r p (OutsideTable (record { 0 = device_address r p }))
  has_bad_size : (e : DeviceFields) → device_entry memory p ≡ Some e → 16 < e.bits → DeviceFaults memory lpi_bits r p (BadSize (record { 0 = id_of p }))
  has_bad_itt : (e : DeviceFields) (f : RestoreFault) → device_entry memory p ≡ Some e → e.bits ≤ 16
      → IttOffends memory lpi_bits (itt_of (id_of p) (device_of_fields e)) f → DeviceFaults memory lpi_bits r p f
  leads_past : (e : DeviceFields) → device_entry memory p ≡ Some e → e.bits ≤ 16 → IsIttClear memory lpi_bits (itt_of (id_of p) (device_of_fields e))
      → ends_well r (index_of p) e.next ≡ false → DeviceFaults memory lpi_bits r p (PastEnd Devices (id_of p) e.next)

-- a table that isn't valid isn't read
abbrev pub AreDevicesClear : List Window → ℕ → Registers → Type 0
AreDevicesClear memory lpi_bits r = is_valid r.baser0 ≡ true → (p : DevicePlace) → DeviceReached memory r p → IsDeviceClear memory lpi_bits r p

abbrev pub DevicesOffend : List Window → ℕ → Registers → RestoreFault → Type 0
DevicesOffend memory lpi_bits r f =
    (is_valid r.baser0 ≡ true) × IsFirstOffence (IsDeviceClear memory lpi_bits r) (DeviceFaults memory lpi_bits r) (next_device memory r) (first_device r) f

-- ---- content

-- a place that is reached has the device
abbrev pub HasDevice : List Window → Registers → ℕ → Device → Type 0
HasDevice memory r dev d = (is_valid r.baser0 ≡ true) × (p : DevicePlace) × DeviceReached memory r p × (id_of p ≡ dev) × (device_in memory p ≡ Some d)

-- and the device's table has the event
abbrev pub HasEventOf : List Window → Registers → ℕ → ℕ → Event → Type 0
HasEventOf memory r dev ev e = (d : Device) × HasDevice memory r dev d × HasEvent memory (itt_of dev d) ev e
