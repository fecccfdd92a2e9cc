-- Which state guest memory and register values stand for, and what their first fault is where they stand for none (KVM
-- document arm-vgic-its, "ITS Restore Sequence").
use Rattle.std.specs.Prelude.{◌≡◌, ◌<◌, ℕ, Bool, true, false, not, ◌&&◌, List, [], length, replicate, slice_get, Option, Some, None, Err, ◌↔◌}
use Rattle.std.specs.Result.{IsOk}
use Rattle.std.specs.List.Sorted.{IsStrictlyIncreasing}
use Rattle.guest_windows.specs.Windows.{Window, read_at}
pub use Rattle.gicr_regs.specs.Redistributors.{is_set}
use Rattle.gicr_regs.specs.Redistributors.{has_tables}
use Rattle.gits_regs.specs.Registers.{Registers, masked, restored, reset}
use Rattle.gits_regs.specs.declared.values.NotValid.{NotValid}
use Rattle.gits_regs.specs.declared.values.RegValues.{RegValues}
use Rattle.its_types.specs.Lpis.{is_pending}
use Rattle.its_types.specs.Maps.{Maps, no_maps, device_of, event_of, collection_of}
use Rattle.its_types.specs.Ranges.{is_lpi, lpi_count}
use Rattle.its_types.specs.declared.ids.Vcpu.{Vcpu}
use Rattle.its_types.specs.declared.machine.Shape.{Shape}
use Rattle.its_types.specs.declared.translation.Bases.{Bases}
use Rattle.its_types.specs.declared.translation.Device.{Device}
use Rattle.its_types.specs.declared.translation.Event.{Event}
use Rattle.its_plain.specs.Plain.{Plain, Layout, Translator, Redistributor}
use Rattle.its_plain.specs.Saved.{track_of}
use Rattle.its_plain.specs.CollectionTables.{AreCollectionsClear, CollectionsOffend, HasCollection}
use Rattle.its_plain.specs.DeviceTables.{AreDevicesClear, DevicesOffend, HasDevice, HasEventOf}
use Rattle.its_plain.specs.declared.fault.RestoreFault.{RestoreFault}
use Rattle.its_plain.specs.declared.fault.RestoreFault.TheVariants as fault

-- ---- redistributors

-- LPIs are on, and one of the two tables doesn't lie in one window
abbrev pub lacks_tables : Shape → List Window → Bases → Bool
lacks_tables s memory b = b.on && not (has_tables s memory b)

abbrev pub AreRedistributorsClear : Shape → List Window → List Bases → Type 0
AreRedistributorsClear s memory bases = (vcpu : ℕ) (b : Bases) → slice_get bases vcpu ≡ Some b → lacks_tables s memory b ≡ false

-- the first virtual processor of which it holds
pub record RedistributorOffends (s : Shape) (memory : List Window) (bases : List Bases) (vcpu : ℕ) : Type 0 where
  pub base : Bases
  pub base_is : slice_get bases vcpu ≡ Some base
  pub lacks : lacks_tables s memory base ≡ true
  pub first : (w : ℕ) (b : Bases) → w < vcpu → slice_get bases w ≡ Some b → lacks_tables s memory b ≡ false

-- the LPIs whose bits are set, rising: the first 1024 bytes of the table belong to none
pub record ArePendingIn (lpi_bits : ℕ) (memory : List Window) (base : ℕ) (pending : List ℕ) : Type 0 where
  pub rising : IsStrictlyIncreasing pending
  pub are : (intid : ℕ) → is_pending intid pending ≡ is_lpi lpi_bits intid && is_set memory base intid

-- what memory says of a redistributor with these bases
pub record IsRedistributorIn (s : Shape) (memory : List Window) (b : Bases) (r : Redistributor) : Type 0 where
  pub bases : r.bases ≡ b
  pub accepts : r.accepts ≡ b.on
  pub config : b.on ≡ true → read_at memory b.prop.table.0 (lpi_count s.lpi_bits) ≡ Some r.config
  pub pending : b.on ≡ true → ArePendingIn s.lpi_bits memory b.pend.table.0 r.pending
  pub off_config : b.on ≡ false → r.config ≡ replicate (lpi_count s.lpi_bits) 0
  pub off_pending : b.on ≡ false → r.pending ≡ []

-- ---- a translator

-- nothing that is read has a fault, and the maps are just the valid entries at places that are reached
pub record AreMapsIn (s : Shape) (memory : List Window) (r : Registers) (m : Maps) : Type 0 where
  pub collections_clear : AreCollectionsClear s memory r
  pub devices_clear : AreDevicesClear memory s.lpi_bits r
  pub collections : (icid : ℕ) (vcpu : Vcpu) → (collection_of m icid ≡ Some vcpu) ↔ HasCollection s memory r icid vcpu
  pub devices : (dev : ℕ) (d : Device) → (device_of m dev ≡ Some d) ↔ HasDevice memory r dev d
  pub events : (dev ev : ℕ) (e : Event) → (event_of m dev ev ≡ Some e) ↔ HasEventOf memory r dev ev e

pub record IsTranslatorIn (s : Shape) (memory : List Window) (values : RegValues) (t : Translator) : Type 0 where
  pub allowed : IsOk (restored values s.dev_bits)
  pub regs : t.regs ≡ masked values s.dev_bits
  pub maps : AreMapsIn s memory t.regs t.maps

-- one without values starts at reset
abbrev pub IsTranslatorFrom : Shape → List Window → Option RegValues → Translator → Type 0
IsTranslatorFrom s memory None t = t ≡ record { regs = reset s.dev_bits; maps = no_maps }
IsTranslatorFrom s memory (Some values) t = IsTranslatorIn s memory values t

-- the first fault of a translator: of its registers, of its collections, and then of its devices with their events
pub data TranslatorOffends (s : Shape) (memory : List Window) (values : RegValues) : RestoreFault → Type 0 where
  of_register : (e : NotValid) → restored values s.dev_bits ≡ Err e → TranslatorOffends s memory values (fault.NotValid e.0)
  of_collection : (f : RestoreFault) → IsOk (restored values s.dev_bits) → CollectionsOffend s memory (masked values s.dev_bits) f
      → TranslatorOffends s memory values f
  of_device : (f : RestoreFault) → IsOk (restored values s.dev_bits) → AreCollectionsClear s memory (masked values s.dev_bits)
      → DevicesOffend memory s.lpi_bits (masked values s.dev_bits) f → TranslatorOffends s memory values f

-- nothing of it has a fault
pub record IsTranslatorClear (s : Shape) (memory : List Window) (values : RegValues) : Type 0 where
  pub registers : IsOk (restored values s.dev_bits)
  pub collections : AreCollectionsClear s memory (masked values s.dev_bits)
  pub devices : AreDevicesClear memory s.lpi_bits (masked values s.dev_bits)

-- ---- the machine

-- memory and the values of the translators' registers stand for this state, where the redistributors have these bases
pub record Stands (memory : List Window) (values : List (Option RegValues)) (layout : Layout) (bases : List Bases) (u : Plain) : Type 0 where
  pub clear : AreRedistributorsClear layout.shape memory bases
  pub layout_is : u.layout ≡ layout
  pub memory_is : u.memory ≡ memory
  pub track_is : u.track ≡ track_of layout.track memory
  pub count : length u.translators ≡ length values
  pub translators : (i : ℕ) (v : Option RegValues) (t : Translator) → slice_get values i ≡ Some v → slice_get u.translators i ≡ Some t
      → IsTranslatorFrom layout.shape memory v t
  pub vcpus : length u.redistributors ≡ length bases
  pub redistributors : (vcpu : ℕ) (b : Bases) (r : Redistributor) → slice_get bases vcpu ≡ Some b → slice_get u.redistributors vcpu ≡ Some r
      → IsRedistributorIn layout.shape memory b r

-- The first fault, with the number of its translator: of the redistributors, and then of one translator after another
pub data IsFirstFault (memory : List Window) (values : List (Option RegValues)) (s : Shape) (bases : List Bases) : ℕ → RestoreFault → Type 0 where
  of_redistributor : (vcpu : ℕ) → RedistributorOffends s memory bases vcpu → IsFirstFault memory values s bases 0 (fault.BadRedist (record { 0 = vcpu }))
  of_translator : (i : ℕ) (v : RegValues) (f : RestoreFault) → AreRedistributorsClear s memory bases
      → ((j : ℕ) (w : RegValues) → j < i → slice_get values j ≡ Some (Some w) → IsTranslatorClear s memory w)
      → slice_get values i ≡ Some (Some v) → TranslatorOffends s memory v f → IsFirstFault memory values s bases i f
