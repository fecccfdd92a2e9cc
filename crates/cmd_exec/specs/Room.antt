-- What a command adds to the maps (IHI 0069, section 5.2), and what room that needs.
use Rattle.std.specs.Prelude.{◌≡◌, ◌≤◌, ℕ, Bool, true, false, not, ◌&&◌, is_some, is_ok, List, Result, Ok, Err, IfOk}
use Rattle.guest_windows.specs.Windows.{Window}
use Rattle.gits_regs.specs.Registers.{Registers}
use Rattle.its_command.specs.declared.command.Command.{Command}
use Rattle.its_command.specs.declared.command.Command.TheVariants as command
use Rattle.its_types.specs.Maps.{Maps, device_of, event_of, collection_of}
use Rattle.its_types.specs.declared.machine.Shape.{Shape}
use Rattle.its_maps.specs.MapsRoom.{MapsRoom, event_room}
use Rattle.its_plain.specs.Plain.{Plain, maps_of}
use Rattle.its_plain.specs.Commands.{ran}
use Rattle.its_plain.specs.declared.call.Reason.{Reason}
use Rattle.lpi_pending.specs.InHand.{RedistParts}
use Rattle.owned_parts.specs.Owned.{ArePartsOf}
use Rattle.cmd_exec.specs.declared.effect.Effect.{Effect}
use Rattle.cmd_exec.specs.declared.effect.Effect.TheVariants as effect
use Rattle.cmd_exec.specs.declared.effect.Planned.{Planned}

-- the device is mapped, and the event isn't
abbrev pub adds_event : Maps → ℕ → ℕ → Bool
adds_event m dev ev = is_some (device_of m dev) && not (is_some (event_of m dev ev))

-- the command adds a device, an event or a collection, if it isn't refused
unfoldable pub grows : Maps → Command → Bool
grows m (command.Mapd dev bits itt valid) = valid && not (is_some (device_of m dev.0))
grows m (command.Mapc icid target valid) = valid && not (is_some (collection_of m icid.0))
grows m (command.Mapti dev ev intid icid) = adds_event m dev.0 ev.0
grows m (command.Mapi dev ev icid) = adds_event m dev.0 ev.0
grows m (command.Movi dev ev icid) = false
grows m (command.Int dev ev) = false
grows m (command.Clear dev ev) = false
grows m (command.Sync target) = false
grows m (command.Inv dev ev) = false
grows m (command.Invall icid) = false
grows m (command.Movall from to) = false
grows m (command.Discard dev ev) = false
grows m (command.Unknown opcode) = false

-- in this state translator number i doesn't refuse the command, which adds a device, an event or a collection
abbrev pub adds_to : Plain → ℕ → Command → Bool
adds_to u i c = is_ok (ran u i c) && grows (maps_of u i) c

-- ---- effects

-- the effect adds a device, an event or a collection; one that moves a collection finds it mapped
unfoldable pub effect_adds : Maps → Effect → Bool
effect_adds m (effect.MapDevice dev device) = not (is_some (device_of m dev.0))
effect_adds m (effect.MapCollection icid vcpu) = not (is_some (collection_of m icid.0))
effect_adds m (effect.MapEvent dev ev event) = adds_event m dev.0 ev.0
effect_adds m effect.Nothing = false
effect_adds m (effect.UnmapDevice dev) = false
effect_adds m (effect.MoveCollection icid from to) = false
effect_adds m (effect.UnmapCollection icid) = false
effect_adds m (effect.MoveEvent dev ev intid icid from to) = false
effect_adds m (effect.UnmapEvent dev ev intid target) = false
effect_adds m (effect.SetLpi intid vcpu) = false
effect_adds m (effect.ClearLpi intid vcpu) = false
effect_adds m (effect.Reread intid) = false
effect_adds m (effect.RereadCollection icid) = false
effect_adds m (effect.MoveAll from to) = false

-- how many more of what it adds there is room for
unfoldable pub room_for : MapsRoom → Effect → ℕ
room_for m (effect.MapDevice dev device) = m.room.devices
room_for m (effect.MapCollection icid vcpu) = m.room.collections
room_for m (effect.MapEvent dev ev event) = event_room m.room dev.0
room_for m effect.Nothing = 0
room_for m (effect.UnmapDevice dev) = 0
room_for m (effect.MoveCollection icid from to) = 0
room_for m (effect.UnmapCollection icid) = 0
room_for m (effect.MoveEvent dev ev intid icid from to) = 0
room_for m (effect.UnmapEvent dev ev intid target) = 0
room_for m (effect.SetLpi intid vcpu) = 0
room_for m (effect.ClearLpi intid vcpu) = 0
room_for m (effect.Reread intid) = 0
room_for m (effect.RereadCollection icid) = 0
room_for m (effect.MoveAll from to) = 0

-- there is room for what the effect adds
abbrev pub HasRoom : MapsRoom → Effect → Type 0
HasRoom m e = effect_adds m.maps e ≡ true → 1 ≤ room_for m e

-- ---- planned commands

abbrev pub outcome_adds : Maps → Result Effect Reason → Bool
outcome_adds m (Ok e) = effect_adds m e
outcome_adds m (Err reason) = false

-- the command isn't refused, and its effect adds a device, an event or a collection
abbrev pub adds : Maps → Planned → Bool
adds m p = outcome_adds m p.outcome

-- there is room for what it adds
abbrev pub HasRoomFor : MapsRoom → Planned → Type 0
HasRoomFor m p = IfOk p.outcome (HasRoom m)

-- it adds something just where the command does in each state that has these parts
abbrev pub AddsAlike : Command → Shape → Registers → Maps → List Window → RedistParts → Planned → Type 0
AddsAlike c s r m memory redists p = (u : Plain) (i : ℕ) → ArePartsOf u i s r m memory redists → adds m p ≡ adds_to u i c
