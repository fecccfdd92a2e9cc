-- Which states are reached: what holds of every machine, whatever its guest asked.
use Rattle.std.specs.Prelude.{◌≡◌, ℕ, ◌%◌, ◌^◌, ◌<◌, ◌≤◌, true, false, List, [], length, map, replicate, slice_get, Some, is_some}
use Rattle.std.specs.List.{AllByRecursion}
use Rattle.std.specs.List.Sorted.{IsStrictlyIncreasing}
use Rattle.guest_windows.specs.Windows.{Window, inside, are_windows, extent}
use Rattle.dirty_log.specs.Copies.{IsTracked}
use Rattle.dirty_log.specs.declared.tracked.Tracked.{Tracked}
use Rattle.gicr_regs.specs.Registers.{AreKept}
use Rattle.gits_regs.specs.Registers as regs
use Rattle.gits_regs.specs.Registers.{Registers, is_valid, is_indirect, collection_places}
use Rattle.baser_place.specs.Places.{flat_places}
use Rattle.its_types.specs.Ranges.{most_vcpus, is_device_id, is_lpi, lpi_count, pending_bytes}
use Rattle.its_types.specs.Maps.{Maps, device_of, event_of, collection_of}
use Rattle.its_types.specs.declared.ids.Vcpu.{Vcpu}
use Rattle.its_types.specs.declared.machine.Shape.{Shape}
use Rattle.its_types.specs.declared.translation.Bases.{Bases}
use Rattle.its_types.specs.declared.translation.Device.{Device}
use Rattle.its_types.specs.declared.translation.Event.{Event}
use Rattle.its_plain.specs.Plain.{Plain, Layout, Translator, Redistributor}

-- ---- the description

pub record IsShape (s : Shape) : Type 0 where
  pub some_vcpus : 1 ≤ s.vcpus
  pub most_vcpus : s.vcpus ≤ most_vcpus
  pub least_dev_bits : 16 ≤ s.dev_bits
  pub most_dev_bits : s.dev_bits ≤ 20
  pub least_lpi_bits : 14 ≤ s.lpi_bits
  pub most_lpi_bits : s.lpi_bits ≤ 20

pub record IsLayout (l : Layout) : Type 0 where
  pub shape : IsShape l.shape
  -- tables are described for each virtual processor, unless the guest programs them
  pub described : l.gicr ≡ false → length l.described ≡ l.shape.vcpus

-- ---- a translator

-- a device is mapped only where its table can have a place for it
pub record IsDevice (r : Registers) (dev : ℕ) (d : Device) : Type 0 where
  pub table : is_valid r.baser0 ≡ true
  pub in_range : is_device_id r.dev_bits dev ≡ true
  pub in_table : is_indirect r.baser0 ≡ false → dev < flat_places r
  pub least_bits : 1 ≤ d.bits
  pub most_bits : d.bits ≤ 16
  pub itt_whole : d.itt.0 % 256 ≡ 0
  pub itt_low : d.itt.0 < 2 ^ 52

-- an event is mapped only of a mapped device, within its bits
pub record IsEvent (s : Shape) (m : Maps) (dev ev : ℕ) (e : Event) : Type 0 where
  pub device : Device
  pub device_is : device_of m dev ≡ Some device
  pub in_bits : ev < 2 ^ device.bits
  pub lpi : is_lpi s.lpi_bits e.intid.0 ≡ true
  pub icid : e.icid.0 < 65536

-- a collection is mapped only where its table has a place for it, and to a virtual processor that there is
pub record IsCollection (s : Shape) (r : Registers) (icid : ℕ) (vcpu : Vcpu) : Type 0 where
  pub table : is_valid r.baser1 ≡ true
  pub in_table : icid < collection_places r
  pub target : vcpu.0 < s.vcpus

pub record IsTranslator (s : Shape) (t : Translator) : Type 0 where
  pub regs : regs.IsSound t.regs
  pub dev_bits : t.regs.dev_bits ≡ s.dev_bits
  pub devices : (dev : ℕ) (d : Device) → device_of t.maps dev ≡ Some d → IsDevice t.regs dev d
  pub events : (dev ev : ℕ) (e : Event) → event_of t.maps dev ev ≡ Some e → IsEvent s t.maps dev ev e
  pub collections : (icid : ℕ) (vcpu : Vcpu) → collection_of t.maps icid ≡ Some vcpu → IsCollection s t.regs icid vcpu

-- ---- a redistributor

-- with LPIs on both tables lie in memory
pub record HasTables (s : Shape) (memory : List Window) (b : Bases) : Type 0 where
  pub config : inside memory b.prop.table.0 (lpi_count s.lpi_bits) ≡ true
  pub pending : inside memory b.pend.table.0 (pending_bytes s.lpi_bits) ≡ true

pub record IsRedistributor (l : Layout) (memory : List Window) (vcpu : ℕ) (r : Redistributor) : Type 0 where
  pub rising : IsStrictlyIncreasing r.pending
  pub lpis : AllByRecursion (λ intid. is_lpi l.shape.lpi_bits intid ≡ true) r.pending
  pub config : length r.config ≡ lpi_count l.shape.lpi_bits
  -- LPIs are taken where they are on
  pub accepts : r.accepts ≡ r.bases.on
  pub tables : r.bases.on ≡ true → HasTables l.shape memory r.bases
  pub off_pending : r.bases.on ≡ false → r.pending ≡ []
  pub off_config : r.bases.on ≡ false → r.config ≡ replicate (lpi_count l.shape.lpi_bits) 0
  pub kept : l.gicr ≡ true → AreKept r.bases
  -- otherwise LPIs are on at the tables that the description gives
  pub described : l.gicr ≡ false → slice_get l.described vcpu ≡ Some r.bases
  pub always_on : l.gicr ≡ false → r.bases.on ≡ true

-- ---- the machine

pub record IsSound (u : Plain) : Type 0 where
  pub layout : IsLayout u.layout
  pub translators : (i : ℕ) (t : Translator) → slice_get u.translators i ≡ Some t → IsTranslator u.layout.shape t
  pub vcpus : length u.redistributors ≡ u.layout.shape.vcpus
  pub redistributors : (v : ℕ) (r : Redistributor) → slice_get u.redistributors v ≡ Some r → IsRedistributor u.layout u.memory v r
  pub memory : are_windows (map extent u.memory) ≡ true
  pub tracks : is_some u.track ≡ u.layout.track
  pub tracked : (t : Tracked) → u.track ≡ Some t → IsTracked u.memory t
