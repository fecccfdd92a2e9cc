-- The routes of devices' writes by address, as scripts give them.
use Rattle.std.specs.Prelude.{◌<◌, ℕ, ◌^◌, Bool, true, false, ◌&&◌, ◌==◌, nat_lt, if◌then◌else◌, List, length, Option, Some, None}
use Rattle.std.specs.List.{list_any}
use Rattle.byteorder.specs.Endian.{little_number}
use Rattle.its_types.specs.declared.ids.Addr.{Addr}
use Rattle.its_types.specs.declared.ids.DeviceId.{DeviceId}
use Rattle.its_types.specs.declared.ids.EventId.{EventId}
use Rattle.its_plain.specs.Doorbells.{route_of, meets_frames}
use Rattle.its_plain.specs.declared.call.Call.{Call}
use Rattle.its_plain.specs.declared.call.Call.TheVariants as call
use Rattle.its_plain.specs.declared.call.Route.{Route}
use Rattle.its_plain.specs.declared.call.Route.TheVariants as route
use Rattle.its_plain.specs.declared.desc.Desc.{Desc}
use Rattle.its_plain.specs.declared.desc.Its.{Its}

-- a requester whose device would be past 2 ^ 32 - 1 is no device: no machine is made of a description that has one
abbrev pub in_range : Route → Route
in_range (route.Signal its dev ev) = if nat_lt dev.0 (2 ^ 32) then route.Signal its dev ev else route.NoRequester
in_range route.Poke = route.Poke
in_range route.NoRequester = route.NoRequester
in_range route.Frame = route.Frame

-- the device with a number, where there may be one
abbrev pub in_reach : Option ℕ → Option DeviceId
in_reach None = None
in_reach (Some n) = if nat_lt n (2 ^ 32) then Some (record { 0 = n }) else None

-- the event of a message's bytes
abbrev pub event_of : List ℕ → EventId
event_of bytes = record { 0 = little_number (length bytes) bytes }

-- a write that is no message
abbrev pub no_message : List Its → ℕ → ℕ → Route
no_message translators address count = if list_any (meets_frames address count) translators then route.Frame else route.Poke

-- the route of a requester's write
abbrev pub said_route : Desc → ℕ → ℕ → List ℕ → Route
said_route d req address bytes = in_range (route_of d req address bytes)

-- the call that it is
abbrev pub dma_call : Desc → ℕ → Addr → List ℕ → Call
dma_call d req addr bytes = call.Dma req addr bytes (said_route d req addr.0 bytes)

-- two routes are equal
abbrev pub same_route : Route → Route → Bool
same_route (route.Signal i dev ev) (route.Signal j other event) = i == j && dev.0 == other.0 && ev.0 == event.0
same_route route.Poke route.Poke = true
same_route route.NoRequester route.NoRequester = true
same_route route.Frame route.Frame = true
same_route r s = false

-- a message goes to one of so many translators
abbrev pub HasIts : ℕ → Route → Type 0
HasIts n (route.Signal its dev ev) = its < n
HasIts n route.Poke = Unit {0}
HasIts n route.NoRequester = Unit {0}
HasIts n route.Frame = Unit {0}
