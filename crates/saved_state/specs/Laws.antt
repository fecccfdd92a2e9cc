-- What is claimed of a state that was saved: a restore reads it back.
use Rattle.std.specs.Prelude.{◌≡◌, ◌⊎◌, ◌<◌, ◌≤◌, ℕ, ◌+◌, true, false, List, length, map, slice_get, Some, ◌↔◌}
use Rattle.std.specs.Option.{option_and_then}
use Rattle.guest_windows.specs.Windows.{Window, read_at, number_at}
use Rattle.gits_regs.specs.Registers as regs
use Rattle.gits_regs.specs.Registers.{Registers, is_valid, collection_places, masked, read_32, read_64}
use Rattle.gits_regs.specs.declared.values.RegValues.{RegValues}
use Rattle.its_types.specs.declared.translation.Bases.{Bases}
use Rattle.baser_place.specs.Places.{entry_address}
use Rattle.table_entries.specs.Fields.{CollectionFields}
use Rattle.table_entries.specs.Words.{unpacked_collection}
use Rattle.its_types.specs.Maps.{device_of, event_of, collection_of}
use Rattle.its_types.specs.declared.ids.Vcpu.{Vcpu}
use Rattle.its_types.specs.declared.translation.Device.{Device}
use Rattle.its_types.specs.declared.translation.Event.{Event}
use Rattle.its_plain.specs.EventTables.{itt_of, IsIttClear, HasEvent}
use Rattle.its_plain.specs.DeviceTables.{AreDevicesClear, HasDevice}
use Rattle.its_plain.specs.Plain.{Plain, Translator, Redistributor, redistributor, regs_of, maps_of, pending_of, is_on}
use Rattle.its_plain.specs.CollectionTables.{collection_address, CollectionReached, AreCollectionsClear, HasCollection}
use Rattle.its_plain.specs.Sound.{IsSound}
use Rattle.its_plain.specs.declared.area.Area.{Area}
use Rattle.its_plain.specs.Regions.{areas_of}
use Rattle.its_plain.specs.Saved.{Words, words_of, saved, reloaded, moved, IsSavable}
use Rattle.its_plain.specs.Stands.{IsRedistributorIn, Stands, IsFirstFault}
use Rattle.its_plain.specs.declared.fault.RestoreFault.{RestoreFault}

-- ---- memory

-- the m bytes from a on and the n bytes from b on have none in common
abbrev pub Apart : ℕ → ℕ → ℕ → ℕ → Type 0
Apart a m b n = (a + m ≤ b) ⊎ (b + n ≤ a)

-- each word of each table is read at its place
abbrev pub WordsReadBack : Type 0
WordsReadBack = (u : Plain) (k i : ℕ) (t : Words) → IsSound u → IsSavable u → slice_get (words_of u) k ≡ Some t → i < t.count
    → number_at (saved u) (entry_address t.base i) ≡ Some (t.word i)

-- a stretch that shares no byte with an area that is written reads as before
abbrev pub OtherBytesStay : Type 0
OtherBytesStay = (u : Plain) (address n : ℕ) → IsSound u → IsSavable u → ((k : ℕ) (a : Area) → slice_get (areas_of u) k ≡ Some a → a.is_written ≡ true
    → Apart a.base a.size address n)
    → read_at (saved u) address n ≡ read_at u.memory address n

-- and so does every stretch of an area that is not written
abbrev pub ReadAreasStay : Type 0
ReadAreasStay = (u : Plain) (k : ℕ) (a : Area) (address n : ℕ) → IsSound u → IsSavable u → slice_get (areas_of u) k ≡ Some a → a.is_written ≡ false
    → a.base ≤ address → address + n ≤ a.base + a.size
    → read_at (saved u) address n ≡ read_at u.memory address n

-- ---- collections

-- the collection table of saved memory has no fault, and just the collections that are mapped
pub record AreCollectionsSaved (u : Plain) (t : Translator) : Type 0 where
  pub clear : AreCollectionsClear u.layout.shape (saved u) t.regs
  pub are : (icid : ℕ) (vcpu : Vcpu) → (collection_of t.maps icid ≡ Some vcpu) ↔ HasCollection u.layout.shape (saved u) t.regs icid vcpu

abbrev pub CollectionsStand : Type 0
CollectionsStand = (u : Plain) (k : ℕ) (t : Translator) → IsSound u → IsSavable u → slice_get u.translators k ≡ Some t → AreCollectionsSaved u t

-- an entry of the collection stands at a place that a restore reaches, whether or not it counts
pub record HasEntryOf (memory : List Window) (r : Registers) (icid : ℕ) : Type 0 where
  pub place : ℕ
  pub reached : CollectionReached memory r place
  pub fields : CollectionFields
  pub valid : option_and_then unpacked_collection (number_at memory (collection_address r place)) ≡ Some fields
  pub is_of : fields.icid ≡ icid

-- so it does, with `linux`, of each event's collection of which the table has a place: KVM refuses tables in which one has no entry
abbrev pub NamedCollectionsStand : Type 0
NamedCollectionsStand =
    (u : Plain) (k : ℕ) (t : Translator) (dev ev : ℕ) (e : Event) → IsSound u → IsSavable u → slice_get u.translators k ≡ Some t
    → u.layout.shape.linux ≡ true → is_valid t.regs.baser1 ≡ true → event_of t.maps dev ev ≡ Some e → e.icid.0 < collection_places t.regs
    → HasEntryOf (saved u) t.regs e.icid.0

-- ---- redistributors

-- memory says of each redistributor what it goes on with: its pending LPIs, and the configuration that is read again
abbrev pub RedistributorsStand : Type 0
RedistributorsStand = (u : Plain) (vcpu : ℕ) (r : Redistributor) → IsSound u → IsSavable u → slice_get u.redistributors vcpu ≡ Some r
    → IsRedistributorIn u.layout.shape (saved u) r.bases (reloaded u.layout.shape (saved u) r)

-- ---- events

-- the interrupt translation table of a device has no fault, and just the events that are mapped
pub record AreEventsSaved (u : Plain) (t : Translator) (dev : ℕ) (d : Device) : Type 0 where
  pub clear : IsIttClear (saved u) u.layout.shape.lpi_bits (itt_of dev d)
  pub are : (ev : ℕ) (e : Event) → (event_of t.maps dev ev ≡ Some e) ↔ HasEvent (saved u) (itt_of dev d) ev e

abbrev pub EventsStand : Type 0
EventsStand = (u : Plain) (k : ℕ) (t : Translator) (dev : ℕ) (d : Device) → IsSound u → IsSavable u → slice_get u.translators k ≡ Some t
    → device_of t.maps dev ≡ Some d → AreEventsSaved u t dev d

-- ---- devices

-- the device table has no fault, and just the devices that are mapped
pub record AreDevicesSaved (u : Plain) (t : Translator) : Type 0 where
  pub clear : AreDevicesClear (saved u) u.layout.shape.lpi_bits t.regs
  pub are : (dev : ℕ) (d : Device) → (device_of t.maps dev ≡ Some d) ↔ HasDevice (saved u) t.regs dev d

abbrev pub DevicesStand : Type 0
DevicesStand = (u : Plain) (k : ℕ) (t : Translator) → IsSound u → IsSavable u → slice_get u.translators k ≡ Some t → AreDevicesSaved u t

-- ---- the whole

abbrev pub bases_of : Plain → List Bases
bases_of u = map (λ r. r.bases) u.redistributors

-- saved memory, and values that the registers of each translator can be restored from, stand for the state that a migration
-- goes on from
abbrev pub SavedStands : Type 0
SavedStands = (u : Plain) (values : List RegValues) → IsSound u → IsSavable u → map (λ v. masked v u.layout.shape.dev_bits) values
    ≡ map (λ t. t.regs) u.translators
    → Stands (saved u) (map Some values) u.layout (bases_of u) (moved u)

-- what is read of the registers (KVM document arm-vgic-its, "ITS Restore Sequence")
unfoldable pub values_read : Registers → RegValues
values_read r = record {
  ctlr = read_32 r 0x0;
  cbaser = read_64 r 0x80;
  creadr = read_64 r 0x90;
  cwriter = read_64 r 0x88;
  baser0 = read_64 r 0x100;
  baser1 = read_64 r 0x108;
}

-- the registers can be restored from what is read of them
abbrev pub ReadValuesMask : Type 0
ReadValuesMask = (r : Registers) → regs.IsSound r → masked (values_read r) r.dev_bits ≡ r

-- what is read of the registers of each translator
abbrev pub reads_of : Plain → List RegValues
reads_of u = map (λ t. values_read t.regs) u.translators

-- so saved memory and what is read of the registers stand for that state
abbrev pub SavedReadsStand : Type 0
SavedReadsStand = (u : Plain) → IsSound u → IsSavable u → Stands (saved u) (map Some (reads_of u)) u.layout (bases_of u) (moved u)

-- no other state stands there
abbrev pub OnlyThatStands : Type 0
OnlyThatStands = (u w : Plain) → IsSound u → IsSavable u → Stands (saved u) (map Some (reads_of u)) u.layout (bases_of u) w → w ≡ moved u

-- and there is nothing that a restore would refuse
abbrev pub NoOffenceIsFirst : Type 0
NoOffenceIsFirst = (u : Plain) (i : ℕ) (f : RestoreFault) → IsSound u → IsSavable u
    → IsFirstFault (saved u) (map Some (reads_of u)) u.layout.shape (bases_of u) i f → ⊥

-- ---- equal translators

-- two states with equal registers, devices, events, collections and pending lists, whose LPIs are on alike, with the same
-- bases; their memories and configurations may differ
pub record AreEqual (u v : Plain) : Type 0 where
  pub layout : u.layout ≡ v.layout
  pub translators : length u.translators ≡ length v.translators
  pub registers : (i : ℕ) → regs_of u i ≡ regs_of v i
  pub devices : (i dev : ℕ) → device_of (maps_of u i) dev ≡ device_of (maps_of v i) dev
  pub events : (i dev ev : ℕ) → event_of (maps_of u i) dev ev ≡ event_of (maps_of v i) dev ev
  pub collections : (i icid : ℕ) → collection_of (maps_of u i) icid ≡ collection_of (maps_of v i) icid
  pub vcpus : length u.redistributors ≡ length v.redistributors
  pub on : (vcpu : ℕ) → is_on u vcpu ≡ is_on v vcpu
  pub bases : (vcpu : ℕ) → (redistributor u vcpu).bases ≡ (redistributor v vcpu).bases
  pub pending : (vcpu : ℕ) → pending_of u vcpu ≡ pending_of v vcpu

-- a migration goes on from an equal translator, with exactly the same LPIs pending
abbrev pub MovedIsEqual : Type 0
MovedIsEqual = (u : Plain) → AreEqual u (moved u)
