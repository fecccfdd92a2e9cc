-- How many devices and events are mapped, and which steps add one.
use Rattle.std.specs.Prelude.{ℕ, Bool, true, false, not, ◌&&◌, if◌then◌else◌, List, length, Option, Some, None, is_some, is_ok}
use Rattle.std.specs.FinMap.{entries}
use Rattle.its_command.specs.Commands.{decoded}
use Rattle.its_command.specs.declared.command.Command.{Command}
use Rattle.its_command.specs.declared.command.Command.TheVariants as command
use Rattle.its_types.specs.Maps.{Maps, device_of}
use Rattle.cmd_exec.specs.Room as room
use Rattle.its_plain.specs.Answer.{is_idle, next_bytes}
use Rattle.its_plain.specs.Commands.{ran}
use Rattle.its_plain.specs.Plain.{Plain, maps_of}
use Rattle.its_plain.specs.declared.call.StepReply.{StepReply}
use Rattle.its_plain.specs.declared.call.StepReply.TheVariants.{Idle, Ran, Refused, QueueFault}
use Rattle.step_views.specs.declared.counts.Addition.{Addition}
use Rattle.step_views.specs.declared.counts.Addition.TheVariants.{NewDevice, NewEvent}

-- the mapped devices of translator number i
abbrev pub device_count : Plain → ℕ → ℕ
device_count u i = length (entries (maps_of u i).devices)

-- the mapped events of translator number i
abbrev pub event_count : Plain → ℕ → ℕ
event_count u i = length (entries (maps_of u i).events)

-- the command maps a device that isn't mapped, if it isn't refused
unfoldable pub maps_device : Maps → Command → Bool
maps_device m (command.Mapd dev bits itt valid) = valid && not (is_some (device_of m dev.0))
maps_device m (command.Mapti dev ev intid icid) = false
maps_device m (command.Mapi dev ev icid) = false
maps_device m (command.Mapc icid target valid) = false
maps_device m (command.Movi dev ev icid) = false
maps_device m (command.Int dev ev) = false
maps_device m (command.Clear dev ev) = false
maps_device m (command.Sync target) = false
maps_device m (command.Inv dev ev) = false
maps_device m (command.Invall icid) = false
maps_device m (command.Movall from to) = false
maps_device m (command.Discard dev ev) = false
maps_device m (command.Unknown opcode) = false

-- the command maps an event of a mapped device that isn't mapped, if it isn't refused
unfoldable pub maps_event : Maps → Command → Bool
maps_event m (command.Mapti dev ev intid icid) = room.adds_event m dev.0 ev.0
maps_event m (command.Mapi dev ev icid) = room.adds_event m dev.0 ev.0
maps_event m (command.Mapd dev bits itt valid) = false
maps_event m (command.Mapc icid target valid) = false
maps_event m (command.Movi dev ev icid) = false
maps_event m (command.Int dev ev) = false
maps_event m (command.Clear dev ev) = false
maps_event m (command.Sync target) = false
maps_event m (command.Inv dev ev) = false
maps_event m (command.Invall icid) = false
maps_event m (command.Movall from to) = false
maps_event m (command.Discard dev ev) = false
maps_event m (command.Unknown opcode) = false

abbrev pub maps_new : Addition → Maps → Command → Bool
maps_new NewDevice m c = maps_device m c
maps_new NewEvent m c = maps_event m c

-- it isn't refused, and maps a new device or a new event
abbrev pub adds_to : Addition → Plain → ℕ → Command → Bool
adds_to what u i c = is_ok (ran u i c) && maps_new what (maps_of u i) c

abbrev pub met_adds : Addition → Plain → ℕ → Option (List ℕ) → Bool
met_adds what u i None = false
met_adds what u i (Some bytes) = adds_to what u i (decoded bytes)

-- the next step of translator number i does so
unfoldable pub step_adds : Addition → Plain → ℕ → Bool
step_adds what u i = not (is_idle u i) && met_adds what u i (next_bytes u i)

-- the next step maps a device that isn't mapped
abbrev pub adds_device : Plain → ℕ → Bool
adds_device u i = step_adds NewDevice u i

-- the next step maps an event that isn't mapped, of a mapped device
abbrev pub adds_event : Plain → ℕ → Bool
adds_event u i = step_adds NewEvent u i

-- the command was not refused
abbrev pub is_ran : StepReply → Bool
is_ran (Ran op) = true
is_ran (Refused op reason) = false
is_ran (QueueFault addr) = false
is_ran Idle = false

-- by how many events it may grow
abbrev pub growth : Bool → ℕ
growth adds = if adds then 1 else 0
