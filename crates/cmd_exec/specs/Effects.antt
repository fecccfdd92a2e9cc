-- What a command does to the parts in hand (IHI 0069, section 5.3): its first refusal, or its effect.
use Rattle.std.specs.Prelude.{ℕ, ◌^◌, ◌&&◌, ◌==◌, nat_lt, nat_le, if◌then◌else◌, Option, Some, None, is_some, Result, Ok, Err, List, [], ◌∷◌}
use Rattle.std.specs.Option.{ok_or}
use Rattle.guest_windows.specs.Windows.{Window}
use Rattle.gits_regs.specs.Registers.{Registers, collection_places}
use Rattle.baser_place.specs.Places.{device_place}
use Rattle.its_command.specs.declared.command.Command.{Command}
use Rattle.its_command.specs.declared.command.Command.TheVariants as command
use Rattle.its_types.specs.Ranges.{is_device_id, is_lpi}
use Rattle.its_types.specs.Maps.{Maps, device_of, event_of, collection_of, device_mapped, device_unmapped, event_mapped, event_unmapped, collection_mapped}
use Rattle.its_types.specs.Maps.{collection_unmapped}
use Rattle.its_types.specs.declared.ids.DeviceId.{DeviceId}
use Rattle.its_types.specs.declared.ids.EventId.{EventId}
use Rattle.its_types.specs.declared.ids.Intid.{Intid}
use Rattle.its_types.specs.declared.ids.Icid.{Icid}
use Rattle.its_types.specs.declared.ids.Vcpu.{Vcpu}
use Rattle.its_types.specs.declared.machine.Profile.{Profile}
use Rattle.its_types.specs.declared.machine.Profile.TheVariants.{One, Two}
use Rattle.its_types.specs.declared.machine.Shape.{Shape}
use Rattle.its_types.specs.declared.translation.Event.{Event}
use Rattle.its_plain.specs.Commands.{◌>>=◌, ensure, event_at, target_at, intids_of, conf_all_reread_at}
use Rattle.its_plain.specs.declared.call.Reason.{Reason}
use Rattle.its_plain.specs.declared.call.Reason.TheVariants.{UnknownCommand, DeviceRange, SizeRange, TargetRange, CollectionRange, NoDevice, EventRange}
use Rattle.its_plain.specs.declared.call.Reason.TheVariants.{IntidRange, LpisOff}
use Rattle.lpi_pending.specs.InHand.{RedistParts}
use Rattle.cmd_exec.specs.declared.effect.Effect.{Effect}
use Rattle.cmd_exec.specs.declared.effect.Effect.TheVariants as effect
use Rattle.cmd_exec.specs.InHand.{pend_changed, confs_changed, is_on_in, with_set, with_cleared, lpi_moved_in, lpis_moved_in, all_moved_in}

-- ---- devices and collections

unfoldable pub mapd : Registers → List Window → DeviceId → ℕ → ℕ → Result Effect Reason
mapd r memory dev bits itt = do
  _ ← ensure (is_some (device_place r memory dev.0)) DeviceRange
  _ ← ensure (nat_le bits 16) SizeRange
  Ok (effect.MapDevice dev (record { itt = record { 0 = itt }; bits = bits }))

unfoldable pub unmapd : Shape → DeviceId → Result Effect Reason
unmapd s dev = do
  _ ← ensure (is_device_id s.dev_bits dev.0) DeviceRange
  Ok (effect.UnmapDevice dev)

-- the pending LPIs of the collection's events go with it, where the LPIs of both targets are on
abbrev pub moved : RedistParts → Icid → Vcpu → Vcpu → Effect
moved redists icid from to = if is_on_in redists from.0 && is_on_in redists to.0 then effect.MoveCollection icid from to else effect.MapCollection icid to

-- in profile 2 they do, where a mapped collection gets another target
abbrev pub targeted : Profile → RedistParts → Icid → Option Vcpu → Vcpu → Effect
targeted One redists icid before to = effect.MapCollection icid to
targeted Two redists icid None to = effect.MapCollection icid to
targeted Two redists icid (Some from) to = if from.0 == to.0 then effect.MapCollection icid to else moved redists icid from to

unfoldable pub mapc : Shape → Registers → Maps → RedistParts → Icid → ℕ → Result Effect Reason
mapc s r m redists icid target = do
  _ ← ensure (nat_lt target s.vcpus) TargetRange
  _ ← ensure (nat_lt icid.0 (collection_places r)) CollectionRange
  Ok (targeted s.profile redists icid (collection_of m icid.0) (record { 0 = target }))

-- ---- events

-- a mapped event stays as it is
abbrev pub added : Maps → DeviceId → EventId → Event → Effect
added m dev ev event = if is_some (event_of m dev.0 ev.0) then effect.Nothing else effect.MapEvent dev ev event

unfoldable pub mapti : Shape → Registers → Maps → DeviceId → EventId → Intid → Icid → Result Effect Reason
mapti s r m dev ev intid icid = do
  device ← ok_or (device_of m dev.0) NoDevice
  _ ← ensure (nat_lt ev.0 (2 ^ device.bits)) EventRange
  _ ← ensure (is_lpi s.lpi_bits intid.0) IntidRange
  _ ← ensure (nat_lt icid.0 (collection_places r)) CollectionRange
  Ok (added m dev ev (record { intid = intid; icid = icid }))

unfoldable pub movi : Maps → RedistParts → DeviceId → EventId → Icid → Result Effect Reason
movi m redists dev ev icid = do
  event ← event_at m dev.0 ev.0
  from ← target_at m event.icid.0
  to ← target_at m icid.0
  _ ← ensure (is_on_in redists from.0 && is_on_in redists to.0) LpisOff
  Ok (effect.MoveEvent dev ev event.intid icid from to)

-- the LPI of an event, and its target, whose LPIs are on
unfoldable pub lpi_at : Maps → RedistParts → DeviceId → EventId → Result (Intid × Vcpu) Reason
lpi_at m redists dev ev = do
  event ← event_at m dev.0 ev.0
  vcpu ← target_at m event.icid.0
  _ ← ensure (is_on_in redists vcpu.0) LpisOff
  Ok (event.intid, vcpu)

unfoldable pub int : Maps → RedistParts → DeviceId → EventId → Result Effect Reason
int m redists dev ev = do
  lpi ← lpi_at m redists dev ev
  Ok (effect.SetLpi lpi.0 lpi.1)

unfoldable pub clear : Maps → RedistParts → DeviceId → EventId → Result Effect Reason
clear m redists dev ev = do
  lpi ← lpi_at m redists dev ev
  Ok (effect.ClearLpi lpi.0 lpi.1)

unfoldable pub discard : Maps → DeviceId → EventId → Result Effect Reason
discard m dev ev = do
  event ← event_at m dev.0 ev.0
  Ok (effect.UnmapEvent dev ev event.intid (collection_of m event.icid.0))

unfoldable pub inv : Maps → DeviceId → EventId → Result Effect Reason
inv m dev ev = do
  event ← event_at m dev.0 ev.0
  Ok (effect.Reread event.intid)

unfoldable pub invall : Maps → Icid → Result Effect Reason
invall m icid = do
  _ ← target_at m icid.0
  Ok (effect.RereadCollection icid)

unfoldable pub movall : Shape → RedistParts → ℕ → ℕ → Result Effect Reason
movall s redists from to = do
  _ ← ensure (nat_lt from s.vcpus && nat_lt to s.vcpus) TargetRange
  _ ← ensure (is_on_in redists from && is_on_in redists to) LpisOff
  Ok (effect.MoveAll (record { 0 = from }) (record { 0 = to }))

-- ---- all commands

unfoldable pub planned : Shape → Registers → Maps → List Window → RedistParts → Command → Result Effect Reason
planned s r m memory redists (command.Movi dev ev icid) = movi m redists dev ev icid
planned s r m memory redists (command.Int dev ev) = int m redists dev ev
planned s r m memory redists (command.Clear dev ev) = clear m redists dev ev
planned s r m memory redists (command.Sync target) = Ok effect.Nothing
planned s r m memory redists (command.Mapd dev bits itt valid) = if valid then mapd r memory dev bits itt else unmapd s dev
planned s r m memory redists (command.Mapc icid target valid) = if valid then mapc s r m redists icid target else Ok (effect.UnmapCollection icid)
planned s r m memory redists (command.Mapti dev ev intid icid) = mapti s r m dev ev intid icid
planned s r m memory redists (command.Mapi dev ev icid) = mapti s r m dev ev (record { 0 = ev.0 }) icid
planned s r m memory redists (command.Inv dev ev) = inv m dev ev
planned s r m memory redists (command.Invall icid) = invall m icid
planned s r m memory redists (command.Movall from to) = movall s redists from to
planned s r m memory redists (command.Discard dev ev) = discard m dev ev
planned s r m memory redists (command.Unknown opcode) = Err UnknownCommand

-- ---- what effects leave

unfoldable pub maps_after : Effect → Maps → Maps
maps_after (effect.MapDevice dev device) m = device_mapped m dev.0 device
maps_after (effect.UnmapDevice dev) m = device_unmapped m dev.0
maps_after (effect.MapCollection icid vcpu) m = collection_mapped m icid.0 vcpu
maps_after (effect.MoveCollection icid from to) m = collection_mapped m icid.0 to
maps_after (effect.UnmapCollection icid) m = collection_unmapped m icid.0
maps_after (effect.MapEvent dev ev event) m = event_mapped m dev.0 ev.0 event
maps_after (effect.MoveEvent dev ev intid icid from to) m = event_mapped m dev.0 ev.0 (record { intid = intid; icid = icid })
maps_after (effect.UnmapEvent dev ev intid target) m = event_unmapped m dev.0 ev.0
maps_after effect.Nothing m = m
maps_after (effect.SetLpi intid vcpu) m = m
maps_after (effect.ClearLpi intid vcpu) m = m
maps_after (effect.Reread intid) m = m
maps_after (effect.RereadCollection icid) m = m
maps_after (effect.MoveAll from to) m = m

abbrev pub cleared_in : ℕ → Option Vcpu → RedistParts → RedistParts
cleared_in intid None redists = redists
cleared_in intid (Some vcpu) redists = pend_changed vcpu.0 (with_cleared intid) redists

unfoldable pub redists_after : Shape → Maps → List Window → Effect → RedistParts → RedistParts
redists_after s m memory (effect.MoveCollection icid from to) redists = lpis_moved_in (intids_of m icid.0) from.0 to.0 redists
redists_after s m memory (effect.MapEvent dev ev event) redists = confs_changed s.vcpus (conf_all_reread_at memory (event.intid.0 ∷ [])) redists
redists_after s m memory (effect.MoveEvent dev ev intid icid from to) redists = lpi_moved_in intid.0 from.0 to.0 redists
redists_after s m memory (effect.UnmapEvent dev ev intid target) redists = cleared_in intid.0 target redists
redists_after s m memory (effect.SetLpi intid vcpu) redists = pend_changed vcpu.0 (with_set intid.0) redists
redists_after s m memory (effect.ClearLpi intid vcpu) redists = pend_changed vcpu.0 (with_cleared intid.0) redists
redists_after s m memory (effect.Reread intid) redists = confs_changed s.vcpus (conf_all_reread_at memory (intid.0 ∷ [])) redists
redists_after s m memory (effect.RereadCollection icid) redists = confs_changed s.vcpus (conf_all_reread_at memory (intids_of m icid.0)) redists
redists_after s m memory (effect.MoveAll from to) redists = all_moved_in from.0 to.0 redists
redists_after s m memory effect.Nothing redists = redists
redists_after s m memory (effect.MapDevice dev device) redists = redists
redists_after s m memory (effect.UnmapDevice dev) redists = redists
redists_after s m memory (effect.MapCollection icid vcpu) redists = redists
redists_after s m memory (effect.UnmapCollection icid) redists = redists
