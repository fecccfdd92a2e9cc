-- What the functions of a restore answer.
use Rattle.std.specs.Prelude.{◌≡◌, ◌<◌, ◌≤◌, ℕ, true, false, IsSome, length, slice_get, List, Option, Some, None, Result, Ok, Err}
use Rattle.std.specs.Option.{option_map}
use Rattle.guest_windows.specs.Windows.{Window, number_at}
use Rattle.gits_regs.specs.Registers.{Registers}
use Rattle.baser_place.specs.Places.{level1_address}
use Rattle.table_entries.specs.Fields.{CollectionFields}
use Rattle.gicr_regs.specs.Redistributors.{off_redistributor}
use Rattle.gicr_regs.specs.declared.values.GicrValues.{GicrValues}
use Rattle.its_types.specs.Maps.{Maps}
use Rattle.its_types.specs.declared.ids.Icid.{Icid}
use Rattle.its_types.specs.declared.ids.Vcpu.{Vcpu}
use Rattle.its_types.specs.declared.translation.Event.{Event}
use Rattle.its_plain.specs.EventTables.{Itt, event_check, event_in, next_event}
use Rattle.its_plain.specs.CollectionTables.{collection_check, collection_entry, next_collection}
use Rattle.its_plain.specs.DeviceTables as spec
use Rattle.its_plain.specs.DeviceTables.{next_device}
use Rattle.its_plain.specs.declared.fault.RestoreFault.{RestoreFault}
use Rattle.its_plain.specs.declared.fault.RestoreFault.TheVariants as fault
use Rattle.its_plain.specs.declared.fault.RestoreFault.TheVariants.{OutsideTable, BadRedist}
use Rattle.its_plain.specs.Plain.{Translator}
use Rattle.its_plain.specs.declared.layout.Layout.{Layout}
use Rattle.its_plain.specs.Stands.{AreRedistributorsClear, RedistributorOffends, IsRedistributorIn, lacks_tables}
use Rattle.its_plain.specs.Stands.{IsTranslatorIn, IsTranslatorFrom, IsTranslatorClear, TranslatorOffends}
use Rattle.gits_regs.specs.declared.values.NotValid.{NotValid}
use Rattle.gits_regs.specs.declared.values.RegValues.{RegValues}
use Rattle.its_maps.specs.MapsRoom.{MapsRoom}
use Rattle.its_types.specs.declared.machine.Shape.{Shape}
use Rattle.its_types.specs.declared.translation.Bases.{Bases}
use Rattle.lpi_config.specs.Conf.{Conf}
use Rattle.lpi_pending.specs.InHand.{RedistParts, HasLpisOfConf, HasLpisOfPend, redistributor_of}
use Rattle.lpi_pending.specs.Pend.{Pend}
use Rattle.owned_parts.specs.Owned.{translator_of, translators_of}
use Rattle.owned_parts.specs.Places.{AreInHandAt, AreNotInHand}
use Rattle.owned_parts.specs.declared.parts.Translator.{Translator as TranslatorInHand}
use Rattle.standing_states.specs.Walked.{after}
use Rattle.standing_states.specs.Found.{look_device, put_found}
use Rattle.table_restore.specs.declared.error.TableError.{TableError}
use Rattle.table_restore.specs.declared.error.TableError.TheVariants as errors
use Rattle.table_restore.specs.declared.error.RestoreError.{RestoreError}
use Rattle.table_restore.specs.declared.error.RestoreError.TheVariants as numbered
use Rattle.table_restore.specs.declared.place.DevicePlace.{DevicePlace}
use Rattle.table_restore.specs.declared.place.DevicePlace.TheVariants.{Level1, Entry}

abbrev pub LookedEvent : List Window → ℕ → Itt → ℕ → Result (Option Event × Option ℕ) RestoreFault → Type 0
LookedEvent memory lpi_bits t ev (Ok seen) = (event_check memory lpi_bits t ev ≡ Ok tt) × (event_in memory t ev ≡ seen.0) × (next_event memory t ev ≡ seen.1)
LookedEvent memory lpi_bits t ev (Err f) = event_check memory lpi_bits t ev ≡ Err f

abbrev pub fields_of : Icid × Vcpu → CollectionFields
fields_of c = record { vcpu_number = c.1.0; icid = c.0.0 }

abbrev pub LookedCollection : Shape → List Window → Registers → ℕ → Result (Option (Icid × Vcpu) × Option ℕ) RestoreFault → Type 0
LookedCollection s memory r i (Ok seen) =
    (collection_check s memory r i ≡ Ok tt) × (collection_entry s memory r i ≡ option_map fields_of seen.0) × (next_collection memory r i ≡ seen.1)
LookedCollection s memory r i (Err f) = collection_check s memory r i ≡ Err f

-- what was to be read is in the maps, unless memory ran out
abbrev pub Took : {X : Type 0} → (Maps → X → Maps) → Maps → Maps → Result (Unit {0}) TableError → Result (List X) RestoreFault → Type 0
Took put old new (Ok done) read = after put old read ≡ Ok new
Took put old new (Err (errors.Fault f)) read = read ≡ Err f
Took put old new (Err errors.NoMemory) read = Unit {0}

-- ---- places of the device table

abbrev pub place_of : DevicePlace → spec.DevicePlace
place_of (Level1 k) = spec.at_level1 k
place_of (Entry k page index) = spec.at_entry k page.0 index

-- the maps have what the place has, and it leads there
abbrev pub LookedDevice : List Window → ℕ → Registers → spec.DevicePlace → Maps → Maps → Result (Option DevicePlace) TableError → Type 0
LookedDevice memory lpi_bits r p old new (Ok to) = (after put_found old (look_device memory lpi_bits r p) ≡ Ok new)
    × (next_device memory r p ≡ option_map place_of to)
LookedDevice memory lpi_bits r p old new (Err (errors.Fault f)) = look_device memory lpi_bits r p ≡ Err f
LookedDevice memory lpi_bits r p old new (Err errors.NoMemory) = Unit {0}

abbrev pub LookedLevel1 : List Window → Registers → ℕ → Result (Option DevicePlace) RestoreFault → Type 0
LookedLevel1 memory r k (Ok to) = IsSome (number_at memory (level1_address r k)) × (next_device memory r (spec.at_level1 k) ≡ option_map place_of to)
LookedLevel1 memory r k (Err f) = (number_at memory (level1_address r k) ≡ None) × (f ≡ OutsideTable (record { 0 = level1_address r k }))

-- ---- redistributors

-- the parts of a redistributor in hand are those that memory has
pub record IsRestoredRedist (s : Shape) (memory : List Window) (b : Bases) (c : Conf) (p : Pend) : Type 0 where
  pub conf_lpis : HasLpisOfConf s c
  pub pend_lpis : HasLpisOfPend s p
  pub stands : IsRedistributorIn s memory b (redistributor_of c p)

-- one whose LPIs are off has none pending, and a configuration of zeros
pub record IsOffRedist (s : Shape) (b : Bases) (c : Conf) (p : Pend) : Type 0 where
  pub conf_lpis : HasLpisOfConf s c
  pub pend_lpis : HasLpisOfPend s p
  pub is : redistributor_of c p ≡ off_redistributor s b

abbrev pub RestoredRedist : Shape → List Window → ℕ → Bases → Result (Conf × Pend) TableError → Type 0
RestoredRedist s memory vcpu b (Ok r) = IsRestoredRedist s memory b r.0 r.1 × (lacks_tables s memory b ≡ false)
RestoredRedist s memory vcpu b (Err (errors.Fault f)) = (lacks_tables s memory b ≡ true) × (f ≡ BadRedist (record { 0 = vcpu }))
RestoredRedist s memory vcpu b (Err errors.NoMemory) = Unit {0}

-- where the registers of redistributors say where their tables are, there are values for each virtual processor
abbrev pub HasValuesFor : Layout → GicrValues → Type 0
HasValuesFor layout values = layout.gicr ≡ true → length values.registers ≡ layout.shape.vcpus

-- each redistributor with bases is in hand, and no other
pub record AreRestoredRedists (s : Shape) (memory : List Window) (bases : List Bases) (redists : RedistParts) : Type 0 where
  pub clear : AreRedistributorsClear s memory bases
  pub each : (vcpu : ℕ) (b : Bases) → slice_get bases vcpu ≡ Some b → (c : Conf) × (p : Pend) × AreInHandAt redists vcpu c p × IsRestoredRedist s memory b c p
  pub rest : (vcpu : ℕ) → length bases ≤ vcpu → AreNotInHand redists vcpu

abbrev pub RestoredRedists : Shape → List Window → List Bases → Result RedistParts TableError → Type 0
RestoredRedists s memory bases (Ok redists) = AreRestoredRedists s memory bases redists
RestoredRedists s memory bases (Err (errors.Fault f)) = (vcpu : ℕ) × RedistributorOffends s memory bases vcpu × (f ≡ BadRedist (record { 0 = vcpu }))
RestoredRedists s memory bases (Err errors.NoMemory) = Unit {0}

-- ---- a translator

abbrev pub RestoredRegs : Result Registers RestoreFault → Result Registers NotValid → Type 0
RestoredRegs (Ok r) restored = restored ≡ Ok r
RestoredRegs (Err f) restored = (e : NotValid) × (restored ≡ Err e) × (f ≡ fault.NotValid e.0)

abbrev pub RestoredMaps : Result MapsRoom TableError → Result Maps RestoreFault → Type 0
RestoredMaps (Ok m) read = read ≡ Ok m.maps
RestoredMaps (Err (errors.Fault f)) read = read ≡ Err f
RestoredMaps (Err errors.NoMemory) read = Unit {0}

abbrev pub RestoredTranslator : Shape → List Window → RegValues → Result TranslatorInHand TableError → Type 0
RestoredTranslator s memory values (Ok t) = IsTranslatorIn s memory values (translator_of t)
RestoredTranslator s memory values (Err (errors.Fault f)) = TranslatorOffends s memory values f
RestoredTranslator s memory values (Err errors.NoMemory) = Unit {0}

-- a fault with the number of its translator
abbrev pub with_number : ℕ → TableError → RestoreError
with_number i (errors.Fault f) = numbered.Fault i f
with_number i errors.NoMemory = numbered.NoMemory

-- that of number i, which is at reset where there are no values for it
abbrev pub BegunTranslator : ℕ → Shape → List Window → Option RegValues → Result TranslatorInHand RestoreError → Type 0
BegunTranslator i s memory v (Ok t) = IsTranslatorFrom s memory v (translator_of t)
BegunTranslator i s memory v (Err (numbered.Fault j f)) = (values : RegValues) × (v ≡ Some values) × (j ≡ i) × TranslatorOffends s memory values f
BegunTranslator i s memory v (Err numbered.NoMemory) = Unit {0}

-- ---- all translators

pub record AreTranslatorsFrom (s : Shape) (memory : List Window) (values : List (Option RegValues)) (ts : List Translator) : Type 0 where
  pub count : length ts ≡ length values
  pub each : (i : ℕ) (v : Option RegValues) (t : Translator) → slice_get values i ≡ Some v → slice_get ts i ≡ Some t → IsTranslatorFrom s memory v t

-- the first fault of one, whose number is i
pub record IsFirstOf (s : Shape) (memory : List Window) (values : List (Option RegValues)) (i : ℕ) (f : RestoreFault) : Type 0 where
  pub its : RegValues
  pub its_are : slice_get values i ≡ Some (Some its)
  pub before : (j : ℕ) (w : RegValues) → j < i → slice_get values j ≡ Some (Some w) → IsTranslatorClear s memory w
  pub offends : TranslatorOffends s memory its f

abbrev pub BegunTranslators : Shape → List Window → List (Option RegValues) → Result (TranslatorInHand × Option TranslatorInHand) RestoreError → Type 0
BegunTranslators s memory values (Ok p) = AreTranslatorsFrom s memory values (translators_of p.0 p.1)
BegunTranslators s memory values (Err (numbered.Fault i f)) = IsFirstOf s memory values i f
BegunTranslators s memory values (Err numbered.NoMemory) = Unit {0}

-- ---- the whole

-- what is said of a fault and its translator's number, unless the host ran out of memory
abbrev pub WhereFault : RestoreError → (ℕ → RestoreFault → Type 0) → Type 0
WhereFault (numbered.Fault i f) P = P i f
WhereFault numbered.NoMemory P = Unit {0}

abbrev pub IfFault : {X : Type 0} → Result X RestoreError → (ℕ → RestoreFault → Type 0) → Type 0
IfFault (Ok x) P = Unit {0}
IfFault (Err e) P = WhereFault e P
