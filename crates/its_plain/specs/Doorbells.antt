-- What a device's write by address is (IHI 0069, section 5.1.3 and GITS_TRANSLATER, section 12.19.15): a message, or a write of memory.
use Rattle.std.specs.Prelude.{ℕ, suc, ◌+◌, ◌-◌, Bool, ◌&&◌, ◌||◌, ◌==◌, nat_lt, nat_le, if◌then◌else◌, List, [], ◌∷◌, length, find, Option, Some, None}
use Rattle.std.specs.Option.{option_map}
use Rattle.std.specs.List.{list_any}
use Rattle.byteorder.specs.Endian.{little_number}
use Rattle.its_types.specs.declared.ids.Addr.{Addr}
use Rattle.its_plain.specs.declared.call.Call.{Call}
use Rattle.its_plain.specs.declared.call.Call.TheVariants as call
use Rattle.its_plain.specs.declared.call.Route.{Route}
use Rattle.its_plain.specs.declared.call.Route.TheVariants as route
use Rattle.its_plain.specs.declared.desc.Desc.{Desc}
use Rattle.its_plain.specs.declared.desc.Its.{Its}
use Rattle.its_plain.specs.declared.desc.Requesters.{Requesters}

-- ---- frames

-- the two frames of a translator
abbrev pub frames_size : ℕ
frames_size = 131072

-- where GITS_TRANSLATER stands in them
abbrev pub doorbell_of : Addr → ℕ
doorbell_of frames = frames.0 + 65536 + 64

-- its four bytes are written, or its lower two
abbrev pub rings : ℕ → ℕ → Its → Bool
rings address count t = elim t.frames [ None ↦ Bool.false | Some frames ↦ address == doorbell_of frames && (count == 2 || count == 4) ]

-- one of the bytes is in the frames
abbrev pub meets_frames : ℕ → ℕ → Its → Bool
meets_frames address count t =
    elim t.frames [ None ↦ Bool.false | Some frames ↦ nat_lt address (frames.0 + frames_size) && nat_lt frames.0 (address + count) ]

-- the first translator, counted from i, whose doorbell is written
abbrev pub rung : ℕ → ℕ → ℕ → List Its → Option ℕ
rung i address count [] = None
rung i address count (t ∷ ts) = if rings address count t then Some i else rung (suc i) address count ts

-- ---- requesters

abbrev pub is_among : ℕ → Requesters → Bool
is_among req r = nat_le r.first req && nat_le req r.last

-- the device that a requester is, if it is one
abbrev pub device_of_requester : ℕ → List Requesters → Option ℕ
device_of_requester req ranges = option_map (λ r. r.dev.0 + (req - r.first)) (find (is_among req) ranges)

-- ---- the route of a write

abbrev pub message : ℕ → List ℕ → Option ℕ → Route
message its bytes None = route.NoRequester
message its bytes (Some dev) = route.Signal its (record { 0 = dev }) (record { 0 = little_number (length bytes) bytes })

abbrev no_message : Desc → ℕ → ℕ → Route
no_message d address count = if list_any (meets_frames address count) d.translators then route.Frame else route.Poke

unfoldable pub route_of : Desc → ℕ → ℕ → List ℕ → Route
route_of d req address bytes =
    elim (rung 0 address (length bytes) d.translators) [
      | None ↦ no_message d address (length bytes)
      | Some its ↦ message its bytes (device_of_requester req d.requesters)
    ]

-- the call that a requester's write is, of a machine with this description
abbrev pub dma_of : Desc → ℕ → Addr → List ℕ → Call
dma_of d req addr bytes = call.Dma req addr bytes (route_of d req addr.0 bytes)
