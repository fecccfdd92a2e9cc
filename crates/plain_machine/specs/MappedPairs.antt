-- The pairs of a device and an event that are mapped.
use Rattle.std.specs.Prelude.{◌≡◌, ℕ, Bool, List, map, is_some}
use Rattle.std.specs.List.{list_any}
use Rattle.std.specs.FinMap.{entries}
use Rattle.its_types.specs.Maps.{Maps, event_of, is_pair}
use Rattle.its_types.specs.declared.ids.DeviceId.{DeviceId}
use Rattle.its_types.specs.declared.ids.EventId.{EventId}
use Rattle.its_types.specs.declared.translation.Event.{Event}

abbrev pub pair_of : (ℕ × ℕ) × Event → DeviceId × EventId
pair_of e = (record { 0 = e.0.0 }, record { 0 = e.0.1 })

-- by device and event
abbrev pub mapped_pairs : Maps → List (DeviceId × EventId)
mapped_pairs m = map pair_of (entries m.events)

-- a pair is one of some
abbrev pub is_among : List (DeviceId × EventId) → ℕ → ℕ → Bool
is_among pairs dev ev = list_any (λ p. is_pair dev ev (p.0.0, p.1.0)) pairs

-- a pair is in the list exactly where its event is mapped
abbrev pub AreMapped : Maps → List (DeviceId × EventId) → Type 0
AreMapped m pairs = (dev ev : ℕ) → is_among pairs dev ev ≡ is_some (event_of m dev ev)
