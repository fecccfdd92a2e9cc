-- The areas that a save looks at, each kind from what decides it.
use Rattle.std.specs.Prelude.{◌≡◌, ℕ, ◌+◌, ◌-◌, ◌^◌, ◌<◌, ◌≤◌, true, false, if◌then◌else◌, List, [], ◌∷◌, ◌++◌, Some}
use Rattle.std.specs.Prelude.{slice_index_or}
use Rattle.std.specs.List.{flat_map}
use Rattle.guest_windows.specs.Windows.{Window}
use Rattle.gits_regs.specs.Registers.{Registers}
use Rattle.std.specs.FinMap.{entries}
use Rattle.its_types.specs.Maps.{Maps}
use Rattle.its_types.specs.Ranges.{lpi_count, pending_bytes}
use Rattle.its_types.specs.declared.ids.Vcpu.{Vcpu}
use Rattle.its_types.specs.declared.machine.Shape.{Shape}
use Rattle.its_types.specs.declared.translation.Bases.{Bases}
use Rattle.its_types.specs.declared.translation.Device.{Device}
use Rattle.its_plain.specs.Plain.{Redistributor, no_redistributor}
use Rattle.its_plain.specs.Regions as regions
use Rattle.its_plain.specs.declared.area.Area.{Area}
use Rattle.its_plain.specs.declared.layout.Layout.{Layout}
use Rattle.gicr_regs.specs.Registers.{AreLow}
use Rattle.its_plain.specs.Regions.{device_areas, collection_areas, itt_area, areas_from}
use Rattle.its_plain.specs.declared.fault.Region.TheVariants.{Pending, Config, ConfigOf}
use Rattle.lpi_config.specs.Conf.{Conf}
use Rattle.lpi_pending.specs.InHand.{RedistParts, conf_in}
use Rattle.owned_parts.specs.Owned.{redistributors_in}

-- the interrupt translation tables of some devices of a translator
abbrev pub itt_areas : ℕ → List (ℕ × Device) → List Area
itt_areas its devices = flat_map (λ d. itt_area its d ∷ []) devices

-- the redistributors in hand, as the plain machine has them
abbrev pub redistributors_of : Shape → RedistParts → List Redistributor
redistributors_of shape redists = redistributors_in shape.vcpus redists

-- a pending table but for the bytes that belong to no LPI, where LPIs are on
abbrev pub pending_area : Shape → Vcpu → Bases → List Area
pending_area shape vcpu b =
    if b.on then record { region = Pending vcpu; base = b.pend.table.0 + 1024; size = pending_bytes shape.lpi_bits - 1024; is_written = true } ∷ [] else []

-- a configuration table of a virtual processor's own, where LPIs are on
abbrev pub own_config_area : Shape → Vcpu → Bases → List Area
own_config_area shape vcpu b = if b.on then record { region = ConfigOf vcpu; base = b.prop.table.0; size = lpi_count shape.lpi_bits; is_written = false }
    ∷ [] else []

-- that of the first, which all share, unless each virtual processor has its own
abbrev pub config_areas : Layout → List Redistributor → List Area
config_areas l rs =
    if l.gicr then areas_from (regions.config_area l.shape) 0 rs
    else record { region = Config; base = (slice_index_or rs 0 no_redistributor).bases.prop.table.0; size = lpi_count l.shape.lpi_bits; is_written = false }
    ∷ []

-- ---- what makes the ends of the areas fit a number

abbrev pub HasLowTable : ℕ × Device → Type 0
HasLowTable d = (d.1.itt.0 < 2 ^ 52) × (d.1.bits ≤ 16)

abbrev pub HaveLowTables : Shape → RedistParts → Type 0
HaveLowTables shape redists = (vcpu : ℕ) (c : Conf) → conf_in redists vcpu ≡ Some c → vcpu < shape.vcpus → AreLow c.bases

-- ---- all of them

-- the tables of a translator, which have to lie in one window each
abbrev pub tables_in : ℕ → List Window → Registers → Maps → List Area
tables_in its memory r m = device_areas its r memory ++ collection_areas its r ++ itt_areas its (entries m.devices)

-- with the others after them, of which the queues come last
abbrev pub all_areas : List Area → Layout → List Area → RedistParts → List Area
all_areas tables l queues redists =
    tables ++ areas_from (regions.pending_area l.shape) 0 (redistributors_of l.shape redists) ++ config_areas l (redistributors_of l.shape redists) ++ queues
