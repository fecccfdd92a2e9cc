-- What each command does (IHI 0069, section 5.3): its first refusal, or what it leaves.
use Rattle.std.specs.Prelude.{ℕ, ◌^◌, Bool, ◌&&◌, ◌==◌, nat_lt, nat_le, if◌then◌else◌, Option, Some, None, is_some, Result, Ok, Err, List, [], ◌∷◌, map}
use Rattle.std.specs.Prelude.{filter}
use Rattle.std.specs.Option.{ok_or}
use Rattle.std.specs.FinMap.{entries}
pub use Rattle.gicr_regs.specs.Redistributors.{reread_at, all_reread_at, conf_all_reread_at}
unfoldable pub use Rattle.gicr_regs.specs.Redistributors.{conf_reread_at}
use Rattle.gits_regs.specs.Registers.{collection_places}
use Rattle.baser_place.specs.Places.{device_place}
use Rattle.its_command.specs.declared.command.Command.{Command}
use Rattle.its_command.specs.declared.command.Command.TheVariants as command
use Rattle.its_types.specs.Ranges.{is_device_id, is_lpi}
use Rattle.its_types.specs.Lpis.{is_pending, with_lpi, with_lpis, without_lpi}
use Rattle.its_types.specs.Maps.{Maps, device_of, event_of, collection_of, device_mapped, device_unmapped, event_mapped, event_unmapped, collection_mapped}
use Rattle.its_types.specs.Maps.{collection_unmapped}
use Rattle.its_types.specs.declared.ids.Intid.{Intid}
use Rattle.its_types.specs.declared.ids.Vcpu.{Vcpu}
use Rattle.its_types.specs.declared.machine.Profile.{Profile}
use Rattle.its_types.specs.declared.machine.Profile.TheVariants.{One, Two}
use Rattle.its_types.specs.declared.translation.Event.{Event}
use Rattle.its_plain.specs.Plain.{Plain, regs_of, maps_of, pending_of, is_on, with_maps, with_pending}
use Rattle.its_plain.specs.declared.call.Reason.{Reason}
use Rattle.its_plain.specs.declared.call.Reason.TheVariants.{UnknownCommand, DeviceRange, SizeRange, TargetRange, CollectionRange, NoDevice, EventRange}
use Rattle.its_plain.specs.declared.call.Reason.TheVariants.{IntidRange, NoEvent, NoCollection, LpisOff}

infixl 10 ◌>>=◌
abbrev pub ◌>>=◌ : {A B : Type 0} → Result A Reason → (A → Result B Reason) → Result B Reason
(Ok x) >>= f = f x
(Err e) >>= f = Err e

-- the refusal, unless the test holds
abbrev pub ensure : Bool → Reason → Result (Unit {0}) Reason
ensure test reason = if test then Ok tt else Err reason

-- ---- pending LPIs

-- the LPI is pending at the virtual processor
abbrev pub lpi_set : ℕ → ℕ → Plain → Plain
lpi_set intid vcpu u = with_pending u vcpu (with_lpi intid (pending_of u vcpu))

-- it is not
abbrev pub lpi_cleared : ℕ → ℕ → Plain → Plain
lpi_cleared intid vcpu u = with_pending u vcpu (without_lpi intid (pending_of u vcpu))

-- where it is pending at one virtual processor, it is cleared there and set at another
abbrev pub lpi_moved : ℕ → ℕ → ℕ → Plain → Plain
lpi_moved intid from to u = if is_pending intid (pending_of u from) then lpi_set intid to (lpi_cleared intid from u) else u

abbrev pub lpis_moved : List ℕ → ℕ → ℕ → Plain → Plain
lpis_moved [] from to u = u
lpis_moved (intid ∷ intids) from to u = lpis_moved intids from to (lpi_moved intid from to u)

-- all that are pending at one are pending at the other, and none at the one
unfoldable pub all_moved : ℕ → ℕ → Plain → Plain
all_moved from to u = if from == to then u else with_pending (with_pending u from []) to (with_lpis (pending_of u from) (pending_of u to))

-- ---- configurations

-- every redistributor reads the bytes of these LPIs again
abbrev pub reread : List ℕ → Plain → Plain
reread intids u = record u { redistributors = map (all_reread_at u.memory intids) u.redistributors }

-- ---- look-ups

-- an event of a mapped device
unfoldable pub event_at : Maps → ℕ → ℕ → Result Event Reason
event_at m dev ev = do
  device ← ok_or (device_of m dev) NoDevice
  _ ← ensure (nat_lt ev (2 ^ device.bits)) EventRange
  ok_or (event_of m dev ev) NoEvent

-- the target of a collection
abbrev pub target_at : Maps → ℕ → Result Vcpu Reason
target_at m icid = ok_or (collection_of m icid) NoCollection

-- the INTIDs of the events of a collection
abbrev pub intids_of : Maps → ℕ → List ℕ
intids_of m icid = map (λ e. e.1.intid.0) (filter (λ e. e.1.icid.0 == icid) (entries m.events))

-- ---- devices and collections

unfoldable pub mapd : Plain → ℕ → ℕ → ℕ → ℕ → Result Plain Reason
mapd u i dev bits itt = do
  _ ← ensure (is_some (device_place (regs_of u i) u.memory dev)) DeviceRange
  _ ← ensure (nat_le bits 16) SizeRange
  Ok (with_maps u i (device_mapped (maps_of u i) dev (record { itt = record { 0 = itt }; bits = bits })))

unfoldable pub unmapd : Plain → ℕ → ℕ → Result Plain Reason
unmapd u i dev = do
  _ ← ensure (is_device_id u.layout.shape.dev_bits dev) DeviceRange
  Ok (with_maps u i (device_unmapped (maps_of u i) dev))

-- the pending LPIs of the collection's events go with it
abbrev pub followed : Plain → ℕ → ℕ → ℕ → ℕ → Plain
followed u i icid from to = if is_on u from && is_on u to then lpis_moved (intids_of (maps_of u i) icid) from to u else u

-- in profile 2 they do, where a mapped collection gets another target
abbrev pub followed_in : Profile → Plain → ℕ → ℕ → Option Vcpu → ℕ → Plain
followed_in One u i icid before to = u
followed_in Two u i icid None to = u
followed_in Two u i icid (Some from) to = if from.0 == to then u else followed u i icid from.0 to

abbrev pub with_collection : Plain → ℕ → ℕ → ℕ → Plain
with_collection u i icid target = with_maps u i (collection_mapped (maps_of u i) icid (record { 0 = target }))

unfoldable pub mapc : Plain → ℕ → ℕ → ℕ → Result Plain Reason
mapc u i icid target = do
  _ ← ensure (nat_lt target u.layout.shape.vcpus) TargetRange
  _ ← ensure (nat_lt icid (collection_places (regs_of u i))) CollectionRange
  Ok (with_collection (followed_in u.layout.shape.profile u i icid (collection_of (maps_of u i) icid) target) i icid target)

abbrev pub unmapc : Plain → ℕ → ℕ → Plain
unmapc u i icid = with_maps u i (collection_unmapped (maps_of u i) icid)

-- ---- events

-- a mapped event stays as it is; a new one has its LPI's configuration read again
abbrev pub with_event : Plain → ℕ → ℕ → ℕ → Event → Plain
with_event u i dev ev event =
    if is_some (event_of (maps_of u i) dev ev) then u
    else reread (event.intid.0 ∷ []) (with_maps u i (event_mapped (maps_of u i) dev ev event))

unfoldable pub mapti : Plain → ℕ → ℕ → ℕ → ℕ → ℕ → Result Plain Reason
mapti u i dev ev intid icid = do
  device ← ok_or (device_of (maps_of u i) dev) NoDevice
  _ ← ensure (nat_lt ev (2 ^ device.bits)) EventRange
  _ ← ensure (is_lpi u.layout.shape.lpi_bits intid) IntidRange
  _ ← ensure (nat_lt icid (collection_places (regs_of u i))) CollectionRange
  Ok (with_event u i dev ev (record { intid = record { 0 = intid }; icid = record { 0 = icid } }))

unfoldable pub movi : Plain → ℕ → ℕ → ℕ → ℕ → Result Plain Reason
movi u i dev ev icid = do
  event ← event_at (maps_of u i) dev ev
  from ← target_at (maps_of u i) event.icid.0
  to ← target_at (maps_of u i) icid
  _ ← ensure (is_on u from.0 && is_on u to.0) LpisOff
  Ok (lpi_moved event.intid.0 from.0 to.0 (with_maps u i (event_mapped (maps_of u i) dev ev (record event { icid = record { 0 = icid } }))))

-- the LPI of an event, and its target, whose LPIs are on
unfoldable pub lpi_at : Plain → ℕ → ℕ → ℕ → Result (Intid × Vcpu) Reason
lpi_at u i dev ev = do
  event ← event_at (maps_of u i) dev ev
  vcpu ← target_at (maps_of u i) event.icid.0
  _ ← ensure (is_on u vcpu.0) LpisOff
  Ok (event.intid, vcpu)

unfoldable pub int : Plain → ℕ → ℕ → ℕ → Result Plain Reason
int u i dev ev = do
  lpi ← lpi_at u i dev ev
  Ok (lpi_set lpi.0.0 lpi.1.0 u)

unfoldable pub clear : Plain → ℕ → ℕ → ℕ → Result Plain Reason
clear u i dev ev = do
  lpi ← lpi_at u i dev ev
  Ok (lpi_cleared lpi.0.0 lpi.1.0 u)

-- cleared at its target, if its collection is mapped
abbrev pub cleared_at : ℕ → Option Vcpu → Plain → Plain
cleared_at intid None u = u
cleared_at intid (Some vcpu) u = lpi_cleared intid vcpu.0 u

unfoldable pub discard : Plain → ℕ → ℕ → ℕ → Result Plain Reason
discard u i dev ev = do
  event ← event_at (maps_of u i) dev ev
  Ok (cleared_at event.intid.0 (collection_of (maps_of u i) event.icid.0) (with_maps u i (event_unmapped (maps_of u i) dev ev)))

unfoldable pub inv : Plain → ℕ → ℕ → ℕ → Result Plain Reason
inv u i dev ev = do
  event ← event_at (maps_of u i) dev ev
  Ok (reread (event.intid.0 ∷ []) u)

unfoldable pub invall : Plain → ℕ → ℕ → Result Plain Reason
invall u i icid = do
  _ ← target_at (maps_of u i) icid
  Ok (reread (intids_of (maps_of u i) icid) u)

unfoldable pub movall : Plain → ℕ → ℕ → Result Plain Reason
movall u from to = do
  _ ← ensure (nat_lt from u.layout.shape.vcpus && nat_lt to u.layout.shape.vcpus) TargetRange
  _ ← ensure (is_on u from && is_on u to) LpisOff
  Ok (all_moved from to u)

-- ---- all commands

unfoldable pub ran : Plain → ℕ → Command → Result Plain Reason
ran u i (command.Movi dev ev icid) = movi u i dev.0 ev.0 icid.0
ran u i (command.Int dev ev) = int u i dev.0 ev.0
ran u i (command.Clear dev ev) = clear u i dev.0 ev.0
ran u i (command.Sync target) = Ok u
ran u i (command.Mapd dev bits itt valid) = if valid then mapd u i dev.0 bits itt else unmapd u i dev.0
ran u i (command.Mapc icid target valid) = if valid then mapc u i icid.0 target else Ok (unmapc u i icid.0)
ran u i (command.Mapti dev ev intid icid) = mapti u i dev.0 ev.0 intid.0 icid.0
ran u i (command.Mapi dev ev icid) = mapti u i dev.0 ev.0 ev.0 icid.0
ran u i (command.Inv dev ev) = inv u i dev.0 ev.0
ran u i (command.Invall icid) = invall u i icid.0
ran u i (command.Movall from to) = movall u from to
ran u i (command.Discard dev ev) = discard u i dev.0 ev.0
ran u i (command.Unknown opcode) = Err UnknownCommand
