-- How a device's write by address goes.
use Rattle.std.specs.Prelude.{◌≡◌, ℕ, ◌<◌, List, length, map, Some}
use Rattle.its_types.specs.declared.ids.Addr.{Addr}
use Rattle.its_types.specs.declared.ids.DeviceId.{DeviceId}
use Rattle.its_types.specs.declared.ids.EventId.{EventId}
use Rattle.its_plain.specs.Doorbells.{dma_of, route_of, device_of_requester}
use Rattle.its_plain.specs.declared.call.Route.TheVariants as route
use Rattle.its_plain.specs.declared.desc.Desc.{Desc}
use Rattle.its_turns.specs.Opening.{kept_of}
pub use Rattle.dma_routes.specs.Routes.{AreDevices, MadeHasDevices}

-- the description that a machine keeps has the same routes
abbrev pub KeptHasRoutes : Type 0
KeptHasRoutes = (d : Desc) (req address : ℕ) (bytes : List ℕ) → route_of (kept_of d) req address bytes ≡ route_of d req address bytes

-- ---- no requester is another's device

-- two descriptions have the same frames, and the requester is the same device in both, or in none
pub record AgreeFor (req : ℕ) (d e : Desc) : Type 0 where
  pub frames : map (λ t. t.frames) d.translators ≡ map (λ t. t.frames) e.translators
  pub device : device_of_requester req d.requesters ≡ device_of_requester req e.requesters

-- what its writes are is told by that alone, whatever other requesters there are
abbrev pub WritesGoByOwnRange : Type 0
WritesGoByOwnRange = (d e : Desc) (req : ℕ) (addr : Addr) (bytes : List ℕ) → AgreeFor req d e → dma_of d req addr bytes ≡ dma_of e req addr bytes

-- and a message of it is of its own device
abbrev pub MessagesAreOwn : Type 0
MessagesAreOwn = (d : Desc) (req address : ℕ) (bytes : List ℕ) (its : ℕ) (dev : DeviceId) (ev : EventId) → route_of d req address bytes
    ≡ route.Signal its dev ev → device_of_requester req d.requesters ≡ Some dev.0

-- to a translator that the description has
abbrev pub MessagesStand : Type 0
MessagesStand = (d : Desc) (req address : ℕ) (bytes : List ℕ) (its : ℕ) (dev : DeviceId) (ev : EventId) → route_of d req address bytes
    ≡ route.Signal its dev ev → its < length d.translators
