-- What the maps of a translator answered before a call, of what it may change.
use Rattle.std.specs.Prelude.{ℕ, Bool, not, ◌||◌, ◌==◌, List, [], ◌∷◌, map, filter, slice_get, Option, Some, None, if◌then◌else◌}
use Rattle.std.specs.FinMap.{entries}
use Rattle.std.specs.List.{flat_map}
use Rattle.std.specs.Option.{option_map}
use Rattle.call_facts.specs.Answers.{answer_of}
use Rattle.call_facts.specs.contracts.answers.AnswerPartialEq.TheImpl as answers
use Rattle.call_facts.specs.declared.answers.Key.{Key}
use Rattle.call_facts.specs.declared.answers.Key.TheVariants as key
use Rattle.its_command.specs.declared.command.Command.{Command}
use Rattle.its_command.specs.declared.command.Command.TheVariants as command
use Rattle.its_plain.specs.Plain.{Plain, Translator}
use Rattle.its_plain.specs.declared.call.Call.{Call}
use Rattle.its_plain.specs.declared.call.Call.TheVariants as call
use Rattle.its_types.specs.Maps.{Maps, events_at}
use Rattle.its_types.specs.declared.ids.DeviceId.{DeviceId}
use Rattle.its_types.specs.declared.ids.Vcpu.{Vcpu}
use Rattle.its_types.specs.declared.translation.Device.{Device}
use Rattle.its_types.specs.declared.translation.Event.{Event}
use Rattle.its_explain.specs.declared.watch.Watch.{Watch}
use Rattle.its_explain.specs.declared.watch.Watched.{Watched}

-- ---- before the call

abbrev pub watched : Maps → Key → Watched
watched m k = record { key = k; answer = answer_of m k }

abbrev pub event_watched : Maps → DeviceId → ℕ × Event → Watched
event_watched m dev e = watched m (key.Event dev (record { 0 = e.0 }))

-- a device and its events
unfoldable pub device_answers : Maps → DeviceId → List Watched
device_answers m dev = watched m (key.Device dev) ∷ map (event_watched m dev) (events_at m dev.0)

abbrev pub device_watched : Maps → ℕ × Device → List Watched
device_watched m d = device_answers m (record { 0 = d.0 })

-- these devices and their events
abbrev pub devices_answers : Maps → List (ℕ × Device) → List Watched
devices_answers m = flat_map (device_watched m)

abbrev pub collection_watched : Maps → ℕ × Vcpu → Watched
collection_watched m c = watched m (key.Collection (record { 0 = c.0 }))

abbrev pub collections_answers : Maps → List (ℕ × Vcpu) → List Watched
collections_answers m = map (collection_watched m)

-- what a command may change
abbrev pub command_answers : Maps → Command → List Watched
command_answers m (command.Movi dev ev icid) = watched m (key.Event dev ev) ∷ []
command_answers m (command.Int dev ev) = []
command_answers m (command.Clear dev ev) = []
command_answers m (command.Sync target) = []
command_answers m (command.Mapd dev bits itt valid) = device_answers m dev
command_answers m (command.Mapc icid target valid) = watched m (key.Collection icid) ∷ []
command_answers m (command.Mapti dev ev intid icid) = watched m (key.Event dev ev) ∷ []
command_answers m (command.Mapi dev ev icid) = watched m (key.Event dev ev) ∷ []
command_answers m (command.Inv dev ev) = []
command_answers m (command.Invall icid) = []
command_answers m (command.Movall from to) = []
command_answers m (command.Discard dev ev) = watched m (key.Event dev ev) ∷ []
command_answers m (command.Unknown op) = []

-- and a write of a register, which may unmap all where it sets GITS_BASER0 or GITS_BASER1
abbrev pub register_answers : Maps → ℕ → List Watched
register_answers m off =
    if off == 0x100 || off == 0x104 then devices_answers m (entries m.devices)
    else (if off == 0x108 || off == 0x10C then collections_answers m (entries m.collections) else [])

abbrev pub step_answers : Maps → Option Command → List Watched
step_answers m None = []
step_answers m (Some c) = command_answers m c

-- what a call may change, where a step takes this command, if it takes one
abbrev pub call_answers : Maps → Call → Option Command → List Watched
call_answers m (call.Step its) taken = step_answers m taken
call_answers m (call.WriteReg its off size value) taken = register_answers m off
call_answers m (call.Signal its dev ev) taken = []
call_answers m (call.Take vcpu) taken = []
call_answers m (call.Show vcpu) taken = []
call_answers m (call.Best vcpu mask) taken = []
call_answers m (call.Claim vcpu intid) taken = []
call_answers m (call.Poke addr bytes) taken = []
call_answers m (call.Peek addr count) taken = []
call_answers m (call.ReadReg its off size) taken = []
call_answers m (call.ReadGicr vcpu off size) taken = []
call_answers m (call.WriteGicr vcpu off size value) taken = []
call_answers m call.Save taken = []
call_answers m call.Copy taken = []
call_answers m (call.Dma req addr bytes to) taken = []

-- of the maps of the translator whose maps it may change, if there is one
abbrev pub its_of : Call → ℕ
its_of (call.Step its) = its
its_of (call.WriteReg its off size value) = its
its_of (call.Signal its dev ev) = 0
its_of (call.Take vcpu) = 0
its_of (call.Show vcpu) = 0
its_of (call.Best vcpu mask) = 0
its_of (call.Claim vcpu intid) = 0
its_of (call.Poke addr bytes) = 0
its_of (call.Peek addr count) = 0
its_of (call.ReadReg its off size) = 0
its_of (call.ReadGicr vcpu off size) = 0
its_of (call.WriteGicr vcpu off size value) = 0
its_of call.Save = 0
its_of call.Copy = 0
its_of (call.Dma req addr bytes to) = 0

abbrev pub answers_in : Option Maps → Call → Option Command → List Watched
answers_in None c taken = []
answers_in (Some m) c taken = call_answers m c taken

-- ---- after it

-- the maps answer something else
abbrev pub differs : Maps → Watched → Bool
differs m w = not (answers.ghosts.eq (answer_of m w.key) w.answer)

abbrev pub key_of : Watched → Key
key_of w = w.key

abbrev pub changed_keys : Maps → List Watched → List Key
changed_keys m ws = map key_of (filter (differs m) ws)

-- where there is no such translator nothing changed
abbrev pub changed_in : Option Maps → List Watched → List Key
changed_in None ws = []
changed_in (Some m) ws = changed_keys m ws

abbrev pub maps_at : Plain → ℕ → Option Maps
maps_at u its = option_map (λ (t : Translator). t.maps) (slice_get u.translators its)

-- of what the machine's maps answer something else in this state
abbrev pub changed_at : Plain → Watch → List Key
changed_at u w = changed_in (maps_at u w.its) w.answers.items
