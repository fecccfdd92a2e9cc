-- Whether a state can be saved (KVM document arm-vgic-its, "ITS Table ABI REV0"): the stretches of memory that its tables
-- stand in, and the first refusal.
use Rattle.std.specs.Prelude.{ℕ, zero, suc, ◌+◌, ◌-◌, ◌*◌, ◌/◌, ◌^◌, Bool, true, false, not, ◌&&◌, ◌||◌, nat_lt, if◌then◌else◌, min, List, [], ◌∷◌, ◌++◌}
use Rattle.std.specs.Prelude.{find}
use Rattle.std.specs.Prelude.{Option, Some, None, is_some, Result, Ok, Err}
use Rattle.std.specs.List.{flat_map}
use Rattle.std.specs.FinMap.{entries}
use Rattle.guest_windows.specs.Windows.{Window, inside}
use Rattle.gits_regs.specs.Registers.{Registers, is_valid, is_indirect, pages, table_base, queue_base, queue_size}
use Rattle.baser_place.specs.Places.{level1_entries, level1_of, page_of}
use Rattle.its_types.specs.Ranges.{lpi_count, pending_bytes}
use Rattle.its_types.specs.Maps.{Maps}
use Rattle.its_types.specs.declared.machine.Shape.{Shape}
use Rattle.its_types.specs.declared.translation.Device.{Device}
use Rattle.its_plain.specs.Plain.{Plain, Translator, Redistributor, redistributor}
use Rattle.its_plain.specs.declared.area.Area.{Area}
use Rattle.its_plain.specs.declared.fault.Region.{Region}
use Rattle.its_plain.specs.declared.fault.Region.TheVariants.{Devices, Level1, Page, Collections, Itt, Pending, Config, ConfigOf, Queue}
use Rattle.its_plain.specs.declared.fault.SaveFault.{SaveFault}
use Rattle.its_plain.specs.declared.fault.SaveFault.TheVariants.{NoPlace, Outside, Overlap}

infixl 10 ◌>>=◌
abbrev pub ◌>>=◌ : {A B : Type 0} → Result A SaveFault → (A → Result B SaveFault) → Result B SaveFault
(Ok x) >>= f = f x
(Err e) >>= f = Err e

abbrev written_area : Region → ℕ → ℕ → Area
written_area region base size = record { region = region; base = base; size = size; is_written = true }

abbrev read_area : Region → ℕ → ℕ → Area
read_area region base size = record { region = region; base = base; size = size; is_written = false }

-- ---- the areas of a translator

-- a page of 64 KiB
abbrev pub page_size : ℕ
page_size = 65536

-- the pages of a flat device table that a DeviceID can have a place in
abbrev pub device_pages : Registers → ℕ
device_pages r = min (pages r.baser0) (level1_entries r.dev_bits)

-- the pages of the collection table that an ICID can have a place in
abbrev pub collection_pages : Registers → ℕ
collection_pages r = min (pages r.baser1) 8

abbrev pub page_area : ℕ → ℕ → Option ℕ → List Area
page_area i k None = []
page_area i k (Some base) = written_area (Page i k) base page_size ∷ []

-- the pages of the first n level-1 entries
abbrev pub pages_below : ℕ → Registers → List Window → ℕ → List Area
pages_below i r memory zero = []
pages_below i r memory (suc n) = pages_below i r memory n ++ page_area i n (page_of (level1_of r memory n))

abbrev level1_size : Registers → ℕ
level1_size r = 8 * level1_entries r.dev_bits

abbrev pub level1_areas : ℕ → Registers → List Window → List Area
level1_areas i r memory =
    read_area (Level1 i) (table_base r.baser0) (level1_size r)
    ∷ (if inside memory (table_base r.baser0) (level1_size r) then pages_below i r memory (level1_entries r.dev_bits) else [])

unfoldable pub device_areas : ℕ → Registers → List Window → List Area
device_areas i r memory =
    if not (is_valid r.baser0) then []
    else (if is_indirect r.baser0 then level1_areas i r memory else written_area (Devices i) (table_base r.baser0) (page_size * device_pages r) ∷ [])

abbrev pub collection_areas : ℕ → Registers → List Area
collection_areas i r = if is_valid r.baser1 then written_area (Collections i) (table_base r.baser1) (page_size * collection_pages r) ∷ [] else []

abbrev pub itt_area : ℕ → ℕ × Device → Area
itt_area i d = written_area (Itt i (record { 0 = d.0 })) d.1.itt.0 (8 * 2 ^ d.1.bits)

abbrev pub itt_areas : ℕ → Maps → List Area
itt_areas i m = flat_map (λ d. itt_area i d ∷ []) (entries m.devices)

-- the tables of translator number i, which have to lie in one window each
unfoldable pub table_areas : List Window → ℕ → Translator → List Area
table_areas memory i t = device_areas i t.regs memory ++ collection_areas i t.regs ++ itt_areas i t.maps

abbrev pub queue_area : ℕ → Registers → List Area
queue_area i r = if is_valid r.cbaser then read_area (Queue i) (queue_base r) (queue_size r) ∷ [] else []

abbrev pub queue_areas : ℕ → Translator → List Area
queue_areas i t = queue_area i t.regs

-- those of each translator, from number i on
abbrev pub each_areas : (ℕ → Translator → List Area) → ℕ → List Translator → List Area
each_areas areas i [] = []
each_areas areas i (t ∷ ts) = areas i t ++ each_areas areas (suc i) ts

-- ---- the areas of the redistributors

-- a pending table but for the 1024 bytes that belong to no LPI
abbrev pub pending_area : Shape → ℕ → Redistributor → List Area
pending_area s vcpu r =
    if r.bases.on then written_area (Pending (record { 0 = vcpu })) (r.bases.pend.table.0 + 1024) (pending_bytes s.lpi_bits - 1024) ∷ [] else []

abbrev pub config_area : Shape → ℕ → Redistributor → List Area
config_area s vcpu r = if r.bases.on then read_area (ConfigOf (record { 0 = vcpu })) r.bases.prop.table.0 (lpi_count s.lpi_bits) ∷ [] else []

-- those of each virtual processor, from one on
abbrev pub areas_from : (ℕ → Redistributor → List Area) → ℕ → List Redistributor → List Area
areas_from areas vcpu [] = []
areas_from areas vcpu (r ∷ rs) = areas vcpu r ++ areas_from areas (suc vcpu) rs

-- one table for all, unless each virtual processor has its own
abbrev pub config_areas : Plain → List Area
config_areas u =
    if u.layout.gicr then areas_from (config_area u.layout.shape) 0 u.redistributors
    else read_area Config (redistributor u 0).bases.prop.table.0 (lpi_count u.layout.shape.lpi_bits) ∷ []

-- ---- refusals

abbrev pub tables_of : Plain → List Area
tables_of u = each_areas (table_areas u.memory) 0 u.translators

unfoldable pub areas_of : Plain → List Area
areas_of u = tables_of u ++ areas_from (pending_area u.layout.shape) 0 u.redistributors ++ config_areas u ++ each_areas queue_areas 0 u.translators

abbrev pub is_outside : List Window → Area → Bool
is_outside memory a = not (inside memory a.base a.size)

abbrev outside_fault : Option Area → Result (Unit {0}) SaveFault
outside_fault None = Ok tt
outside_fault (Some a) = Err (Outside a.region)

-- a device whose level-1 entry isn't valid
abbrev pub has_no_place : Registers → List Window → ℕ × Device → Bool
has_no_place r memory d = is_indirect r.baser0 && not (is_some (page_of (level1_of r memory (d.0 / 8192))))

-- the first of a translator's devices that has no place
abbrev pub first_unplaced : List Window → Translator → Option (ℕ × Device)
first_unplaced memory t = find (has_no_place t.regs memory) (entries t.maps.devices)

abbrev placed_or : ℕ → Option (ℕ × Device) → Result (Unit {0}) SaveFault → Result (Unit {0}) SaveFault
placed_or i None rest = rest
placed_or i (Some d) rest = Err (NoPlace i (record { 0 = d.0 }))

-- of the translators from number i on
abbrev pub all_placed : List Window → ℕ → List Translator → Result (Unit {0}) SaveFault
all_placed memory i [] = Ok tt
all_placed memory i (t ∷ ts) = placed_or i (first_unplaced memory t) (all_placed memory (suc i) ts)

-- two areas share a byte, and one of them is written
abbrev pub clash : Area → Area → Bool
clash a b = (a.is_written || b.is_written) && nat_lt a.base (b.base + b.size) && nat_lt b.base (a.base + a.size)

abbrev overlap_or : Area → Option Area → Result (Unit {0}) SaveFault → Result (Unit {0}) SaveFault
overlap_or a None rest = rest
overlap_or a (Some b) rest = Err (Overlap a.region b.region)

-- the first pair that clashes, by the first area and then by the second
abbrev pub none_overlap : List Area → Result (Unit {0}) SaveFault
none_overlap [] = Ok tt
none_overlap (a ∷ areas) = overlap_or a (find (clash a) areas) (none_overlap areas)

-- Ok where the state can be saved, else the first refusal
unfoldable pub savable : Plain → Result (Unit {0}) SaveFault
savable u = do
  _ ← outside_fault (find (is_outside u.memory) (tables_of u))
  _ ← all_placed u.memory 0 u.translators
  none_overlap (areas_of u)
