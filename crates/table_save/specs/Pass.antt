-- One rising pass over the places of a table, beside the entries that are mapped.
use Rattle.std.specs.Prelude.{◌≡◌, ◌≤◌, ◌<◌, ◌%◌, ◌^◌, ℕ, suc, Bool, false, nat_lt, ◌==◌, if◌then◌else◌, List, [], ◌∷◌, Option, Some, None}
use Rattle.std.specs.List.{AllByRecursion}
use Rattle.std.specs.Ordering.{nat_cmp}
use Rattle.std.specs.FinMap as finmap
pub use Rattle.standing_states.specs.Rises.{RisesFrom, key_after}
use Rattle.table_entries.specs.Words.{packed_device, packed_event}
use Rattle.its_plain.specs.Saved.{distance}
use Rattle.its_types.specs.declared.ids.DeviceId.{DeviceId}
use Rattle.its_types.specs.declared.ids.EventId.{EventId}
use Rattle.its_types.specs.declared.translation.Device.{Device}
use Rattle.its_types.specs.declared.translation.Event.{Event}

-- ---- entries of any kind, by rising number

-- the entries after place i, where they rise from i on
abbrev pub past : {X : Type 0} → ℕ → List (ℕ × X) → List (ℕ × X)
past i [] = []
past i (e ∷ es) = if e.0 == i then es else e ∷ es

abbrev pub first_key : {X : Type 0} → List (ℕ × X) → Option ℕ
first_key [] = None
first_key (e ∷ es) = Some e.0

-- the first number is below one
abbrev pub begins_below : {X : Type 0} → ℕ → List (ℕ × X) → Bool
begins_below id [] = false
begins_below id (e ∷ es) = nat_lt e.0 id

abbrev pub packed_if : {X : Type 0} → (X → ℕ → ℕ) → Option X → ℕ → ℕ
packed_if pack None next = 0
packed_if pack (Some x) next = pack x next

-- the word of a place: its entry with the capped distance to the next, or zero
abbrev pub entry_word : {X : Type 0} → (X → ℕ → ℕ) → ℕ → List (ℕ × X) → ℕ → ℕ
entry_word pack cap es id = packed_if pack (finmap.find nat_cmp id es) (distance cap id (key_after id es))

-- what is left of the entries from a place on answers for the places to come as all of them do
pub record Passed {X : Type 0} (Fits : ℕ × X → Type 0) (pack : X → ℕ → ℕ) (cap place : ℕ) (all rest : List (ℕ × X)) : Type 0 where
  pub rises : RisesFrom place rest
  pub words : (k : ℕ) → place ≤ k → entry_word pack cap rest k ≡ entry_word pack cap all k
  pub fit : AllByRecursion Fits rest

-- ---- devices

abbrev pub pack_device : Device → ℕ → ℕ
pack_device d next = packed_device (record { next = next; itt = d.itt.0; bits = d.bits })

abbrev pub FitsDevice : ℕ × Device → Type 0
FitsDevice d = (d.1.itt.0 < 2 ^ 52) × (d.1.itt.0 % 256 ≡ 0) × (1 ≤ d.1.bits) × (d.1.bits ≤ 16)

abbrev pub device_entry_word : List (ℕ × Device) → ℕ → ℕ
device_entry_word = entry_word pack_device 16383

abbrev pub PassedDevices : ℕ → List (ℕ × Device) → List (ℕ × Device) → Type 0
PassedDevices = Passed FitsDevice pack_device 16383

-- one taken from a walk, before the others; at the walk's end there are none
abbrev pub devices_with : Option (DeviceId × Device) → List (ℕ × Device) → List (ℕ × Device)
devices_with None rest = []
devices_with (Some d) rest = (d.0.0, d.1) ∷ rest

-- ---- events

abbrev pub pack_event : Event → ℕ → ℕ
pack_event e next = packed_event (record { next = next; intid = e.intid.0; icid = e.icid.0 })

abbrev pub FitsEvent : ℕ × Event → Type 0
FitsEvent e = 1 ≤ e.1.intid.0

abbrev pub event_entry_word : List (ℕ × Event) → ℕ → ℕ
event_entry_word = entry_word pack_event 65535

abbrev pub PassedEvents : ℕ → List (ℕ × Event) → List (ℕ × Event) → Type 0
PassedEvents = Passed FitsEvent pack_event 65535

abbrev pub events_with : Option (EventId × Event) → List (ℕ × Event) → List (ℕ × Event)
events_with None rest = []
events_with (Some e) rest = (e.0.0, e.1) ∷ rest

-- the first number that has an event from one on: one of places, or else one after them
abbrev pub first_from : ℕ → List (Option Event) → Option ℕ → Option ℕ
first_from id [] after = after
first_from id (None ∷ slots) after = first_from (suc id) slots after
first_from id (Some event ∷ slots) after = Some id

-- the words of places, the first of which is that of a number, before the next event after them
abbrev pub slot_words : ℕ → List (Option Event) → Option ℕ → List ℕ
slot_words id [] after = []
slot_words id (slot ∷ slots) after = packed_if pack_event slot (distance 65535 id (first_from (suc id) slots after)) ∷ slot_words (suc id) slots after
