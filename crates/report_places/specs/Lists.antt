-- The list of what a machine has: for each translator its registers, each mapped device with its events, and each mapped collection, by rising numbers;
-- and for each virtual processor its LPI registers, and each LPI that is pending there, by rising numbers.
use Rattle.std.specs.Prelude.{◌≡◌, ℕ, zero, suc, Bool, List, [], ◌++◌, codes, slice_get, Option, Some, None}
use Rattle.std.specs.FinMap.{entries}
use Rattle.std.specs.List.{flat_map}
use Rattle.call_facts.specs.Lpis.{lpi_state}
use Rattle.gits_regs.specs.Registers.{Registers, read_reg}
use Rattle.its_history.specs.Reports.{reported}
use Rattle.its_history.specs.declared.trace.Leg.{Leg as LegLines}
use Rattle.its_plain.specs.Plain.{Plain, Translator, redistributor, pending_of}
use Rattle.its_plain.specs.Runs.{Leg, IsRun}
use Rattle.its_plain.specs.declared.call.Entry.{Entry}
use Rattle.its_types.specs.Maps.{Maps, events_at}
use Rattle.its_types.specs.declared.ids.Vcpu.{Vcpu}
use Rattle.its_types.specs.declared.translation.Device.{Device}
use Rattle.its_types.specs.declared.translation.Event.{Event}
use Rattle.report_places.specs.Lines.{register_line, device_line, event_line, collection_line, bases_line, pending_line}
use Rattle.report_places.specs.Reached.{state_at}

-- ---- translators

-- a register, by its name, as a guest reads so many bytes at its offset
unfoldable pub read_line : ℕ → Registers → List ℕ → ℕ → ℕ → List ℕ
read_line its r name off size = register_line its name (read_reg r off size)

unfoldable pub offsets_text : ℕ → Registers → List ℕ
offsets_text its r = read_line its r (codes "GITS_CWRITER") 0x88 8 ++ read_line its r (codes "GITS_CREADR") 0x90 8

unfoldable pub queue_text : ℕ → Registers → List ℕ
queue_text its r = read_line its r (codes "GITS_CBASER") 0x80 8 ++ offsets_text its r

unfoldable pub tables_text : ℕ → Registers → List ℕ
tables_text its r = read_line its r (codes "GITS_BASER0") 0x100 8 ++ read_line its r (codes "GITS_BASER1") 0x108 8

unfoldable pub places_text : ℕ → Registers → List ℕ
places_text its r = queue_text its r ++ tables_text its r

unfoldable pub registers_text : ℕ → Registers → List ℕ
registers_text its r = read_line its r (codes "GITS_CTLR") 0x0 4 ++ places_text its r

abbrev pub event_text : ℕ → ℕ → ℕ × Event → List ℕ
event_text its dev e = event_line its dev e.0 e.1

abbrev pub events_text : ℕ → ℕ → List (ℕ × Event) → List ℕ
events_text its dev = flat_map (event_text its dev)

-- a device, and then its events
abbrev pub device_text : ℕ → Maps → ℕ × Device → List ℕ
device_text its m d = device_line its d.0 d.1 ++ events_text its d.0 (events_at m d.0)

abbrev pub devices_text : ℕ → Maps → List (ℕ × Device) → List ℕ
devices_text its m = flat_map (device_text its m)

abbrev pub collection_text : ℕ → ℕ × Vcpu → List ℕ
collection_text its c = collection_line its c.0 c.1

abbrev pub collections_text : ℕ → List (ℕ × Vcpu) → List ℕ
collections_text its = flat_map (collection_text its)

unfoldable pub maps_text : ℕ → Maps → List ℕ
maps_text its m = devices_text its m (entries m.devices) ++ collections_text its (entries m.collections)

unfoldable pub translator_text : ℕ → Translator → List ℕ
translator_text its t = registers_text its t.regs ++ maps_text its t.maps

-- one that there is
abbrev pub if_there : ℕ → Option Translator → List ℕ
if_there its None = []
if_there its (Some t) = translator_text its t

-- ---- virtual processors

-- an LPI that is pending, as it stands there
abbrev pub lpi_text : Plain → ℕ → ℕ → List ℕ
lpi_text u vcpu intid = pending_line vcpu intid (lpi_state u.layout.shape.lpi_bits (redistributor u vcpu) intid)

abbrev pub lpis_text : Plain → ℕ → List ℕ → List ℕ
lpis_text u vcpu = flat_map (lpi_text u vcpu)

unfoldable pub processor_text : Plain → ℕ → List ℕ
processor_text u vcpu = bases_line vcpu (redistributor u vcpu).bases ++ lpis_text u vcpu (pending_of u vcpu)

-- the first n of them
abbrev pub processors_text : Plain → ℕ → List ℕ
processors_text u zero = []
processors_text u (suc n) = processors_text u n ++ processor_text u n

-- ---- a machine

-- there are no more than two
unfoldable pub translators_text : Plain → List ℕ
translators_text u = if_there 0 (slice_get u.translators 0) ++ if_there 1 (slice_get u.translators 1)

unfoldable pub state_text : Plain → List ℕ
state_text u = translators_text u ++ processors_text u u.layout.shape.vcpus

-- ---- a place of a report

-- the state there, if the run has this place
abbrev pub place_text : Option Plain → List ℕ
place_text None = codes "The report has no such place.\n"
place_text (Some u) = state_text u

-- where this is what a report tells of a run of the legs, the text is that of the run's state after so many calls of a leg, of which the first is 0
abbrev pub ListsAt : Plain → List Leg → List LegLines → ℕ → ℕ → List ℕ → Type 0
ListsAt first legs told leg place text =
    (copies : List Bool) (histories : List (List Entry)) → IsRun first legs histories → told ≡ reported first legs copies histories
    → text ≡ place_text (state_at first histories leg place)
