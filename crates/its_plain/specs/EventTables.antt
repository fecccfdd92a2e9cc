-- What a restore reads in a device's interrupt translation table (IHI 0069, section 5.2.4; KVM document arm-vgic-its, "ITS
-- Table ABI REV0").
use Rattle.std.specs.Prelude.{◌≡◌, ℕ, ◌+◌, ◌^◌, ◌==◌, nat_lt, if◌then◌else◌, List, Option, Some, None, Result, Ok, Err}
use Rattle.std.specs.Option.{option_and_then, option_map, ok_or}
use Rattle.guest_windows.specs.Windows.{Window, number_at}
use Rattle.baser_place.specs.Places.{entry_address}
use Rattle.table_entries.specs.Fields.{EventFields}
use Rattle.table_entries.specs.Words.{unpacked_event}
use Rattle.its_types.specs.Ranges.{is_lpi}
use Rattle.its_types.specs.declared.translation.Device.{Device}
use Rattle.its_types.specs.declared.translation.Event.{Event}
use Rattle.its_plain.specs.Walks.{Reached, IsFirstOffence, within, ensure, ◌>>=◌}
use Rattle.its_plain.specs.declared.fault.Table.TheVariants as table
use Rattle.its_plain.specs.declared.fault.RestoreFault.{RestoreFault}
use Rattle.its_plain.specs.declared.fault.RestoreFault.TheVariants.{OutsideTable, BadIntid, PastEnd}

-- the table of a device: where it stands, and how many EventIDs have a place in it
pub record Itt : Type 0 where
  pub dev : ℕ
  pub base : ℕ
  pub places : ℕ

abbrev pub itt_of : ℕ → Device → Itt
itt_of dev d = record { dev = dev; base = d.itt.0; places = 2 ^ d.bits }

abbrev pub event_address : Itt → ℕ → ℕ
event_address t ev = entry_address t.base ev

-- ---- what a place has, and where it leads

-- the entry of an event, where it is valid
abbrev pub event_entry : List Window → Itt → ℕ → Option EventFields
event_entry memory t ev = option_and_then unpacked_event (number_at memory (event_address t ev))

abbrev pub event_of_fields : EventFields → Event
event_of_fields e = record { intid = record { 0 = e.intid }; icid = record { 0 = e.icid } }

abbrev pub event_in : List Window → Itt → ℕ → Option Event
event_in memory t ev = option_map event_of_fields (event_entry memory t ev)

-- an entry that isn't valid leads to the next place, and one that is leads `next` places on, or nowhere where that is 0
abbrev pub event_leads : Itt → ℕ → Option EventFields → Option ℕ
event_leads t ev None = within t.places (ev + 1)
event_leads t ev (Some e) = if e.next == 0 then None else within t.places (ev + e.next)

abbrev pub next_event : List Window → Itt → ℕ → Option ℕ
next_event memory t ev = option_and_then (λ word. event_leads t ev (unpacked_event word)) (number_at memory (event_address t ev))

-- ---- faults

-- of a valid entry, in their order
abbrev pub event_entry_check : ℕ → Itt → ℕ → Option EventFields → Result (Unit {0}) RestoreFault
event_entry_check lpi_bits t ev None = Ok tt
event_entry_check lpi_bits t ev (Some e) = do
  _ ← ensure (is_lpi lpi_bits e.intid) (BadIntid (record { 0 = t.dev }) (record { 0 = ev }) (record { 0 = e.intid }))
  ensure (nat_lt (ev + e.next) t.places) (PastEnd (table.Itt (record { 0 = t.dev })) ev e.next)

-- Ok where a place has none, else the first
abbrev pub event_check : List Window → ℕ → Itt → ℕ → Result (Unit {0}) RestoreFault
event_check memory lpi_bits t ev = do
  word ← ok_or (number_at memory (event_address t ev)) (OutsideTable (record { 0 = event_address t ev }))
  event_entry_check lpi_bits t ev (unpacked_event word)

-- no place that is reached has one
abbrev pub IsIttClear : List Window → ℕ → Itt → Type 0
IsIttClear memory lpi_bits t = (ev : ℕ) → Reached (next_event memory t) 0 ev → event_check memory lpi_bits t ev ≡ Ok tt

abbrev pub IttOffends : List Window → ℕ → Itt → RestoreFault → Type 0
IttOffends memory lpi_bits t f =
    IsFirstOffence (λ ev. event_check memory lpi_bits t ev ≡ Ok tt) (λ ev g. event_check memory lpi_bits t ev ≡ Err g) (next_event memory t) 0 f

-- ---- content

-- a place that is reached has this event
abbrev pub HasEvent : List Window → Itt → ℕ → Event → Type 0
HasEvent memory t ev e = Reached (next_event memory t) 0 ev × (event_in memory t ev ≡ Some e)
