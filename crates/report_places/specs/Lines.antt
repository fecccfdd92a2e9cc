-- The lines of a list of what a machine has: numbers in decimal, addresses, values of registers and priorities as 0x and hexadecimal digits.
use Rattle.std.specs.Prelude.{ℕ, Bool, true, false, List, [], ◌++◌, codes, Option, Some, None}
use Rattle.std.specs.Fmt.{decimal, digits}
use Rattle.its_types.specs.declared.ids.Vcpu.{Vcpu}
use Rattle.its_types.specs.declared.translation.Bases.{Bases}
use Rattle.its_types.specs.declared.translation.Device.{Device}
use Rattle.its_types.specs.declared.translation.Event.{Event}
use Rattle.its_types.specs.declared.translation.Pendbaser.{Pendbaser}
use Rattle.its_types.specs.declared.translation.Propbaser.{Propbaser}
use Rattle.call_facts.specs.declared.lpis.LpiState.{LpiState}

-- a word, and a number after it
unfoldable pub number_text : List ℕ → ℕ → List ℕ
number_text word n = word ++ codes " " ++ decimal n

unfoldable pub value_text : List ℕ → ℕ → List ℕ
value_text word n = word ++ codes " 0x" ++ digits 16 false n

-- ---- of a translator

-- a register, by its name and what it reads
unfoldable pub register_line : ℕ → List ℕ → ℕ → List ℕ
register_line its name value = number_text (codes "its") its ++ codes " " ++ value_text name value ++ codes "\n"

unfoldable pub device_line : ℕ → ℕ → Device → List ℕ
device_line its dev device =
    number_text (codes "its") its ++ number_text (codes " device") dev ++ value_text (codes " table") device.itt.0 ++ number_text (codes " bits") device.bits
    ++ codes "\n"

unfoldable pub event_line : ℕ → ℕ → ℕ → Event → List ℕ
event_line its dev ev event =
    number_text (codes "its") its ++ number_text (codes " device") dev ++ number_text (codes " event") ev ++ number_text (codes " LPI") event.intid.0
    ++ number_text (codes " collection") event.icid.0 ++ codes "\n"

unfoldable pub icid_text : ℕ → ℕ → List ℕ
icid_text its icid = number_text (codes "its") its ++ number_text (codes " collection") icid

unfoldable pub goal_text : ℕ → List ℕ
goal_text vcpu = number_text (codes " processor") vcpu ++ codes "\n"

unfoldable pub collection_line : ℕ → ℕ → Vcpu → List ℕ
collection_line its icid vcpu = icid_text its icid ++ goal_text vcpu.0

-- ---- of a virtual processor

unfoldable pub on_text : Bool → List ℕ
on_text true = codes " LPIs on"
on_text false = codes " LPIs off"

unfoldable pub switch_text : ℕ → Bool → List ℕ
switch_text vcpu on = number_text (codes "vcpu") vcpu ++ on_text on

unfoldable pub config_text : Propbaser → List ℕ
config_text p = value_text (codes " configuration table") p.table.0 ++ number_text (codes " IDbits") p.id_bits

unfoldable pub pend_text : Pendbaser → List ℕ
pend_text p = value_text (codes " pending table") p.table.0 ++ codes "\n"

unfoldable pub tables_text : Bases → List ℕ
tables_text b = config_text b.prop ++ pend_text b.pend

-- its LPI registers: EnableLPIs of GICR_CTLR, GICR_PROPBASER's address and IDbits, and GICR_PENDBASER's address
unfoldable pub bases_line : ℕ → Bases → List ℕ
bases_line vcpu b = switch_text vcpu b.on ++ tables_text b

unfoldable pub enabled_text : Bool → List ℕ
enabled_text true = codes ", enabled"
enabled_text false = codes ", not enabled"

-- how an LPI stands that is pending; of a number that is no LPI's there is no more to tell
unfoldable pub standing_text : Option LpiState → List ℕ
standing_text None = []
standing_text (Some s) = enabled_text s.enabled ++ value_text (codes ", priority") s.priority

-- an LPI that is pending
unfoldable pub pending_line : ℕ → ℕ → Option LpiState → List ℕ
pending_line vcpu intid state =
    number_text (codes "vcpu") vcpu ++ number_text (codes " LPI") intid ++ codes " pending" ++ standing_text state ++ codes "\n"
