-- The stretches of guest memory that a step reads (IHI 0069, section 5.3), each where it begins and how many bytes it has.
use Rattle.std.specs.Prelude.{ℕ, ◌+◌, ◌-◌, ◌/◌, ◌&&◌, if◌then◌else◌, List, [], ◌∷◌, Option, Some, None, is_some}
use Rattle.std.specs.List.{flat_map}
use Rattle.baser_place.specs.Places.{level1_address}
use Rattle.gits_regs.specs.Registers.{Registers, is_valid, is_indirect, queue_place}
use Rattle.its_command.specs.Commands.{decoded}
use Rattle.its_command.specs.declared.command.Command.{Command}
use Rattle.its_command.specs.declared.command.Command.TheVariants as command
use Rattle.its_types.specs.Maps.{Maps, event_of, collection_of}
use Rattle.its_types.specs.Ranges.{is_device_id, is_lpi, first_lpi, lpi_count}
use Rattle.its_types.specs.declared.machine.Shape.{Shape}
use Rattle.its_types.specs.declared.translation.Event.{Event}
use Rattle.cmd_exec.specs.Room.{adds_event}
use Rattle.its_plain.specs.Answer.{is_idle, next_bytes}
use Rattle.its_plain.specs.declared.call.StepReply.{StepReply}
use Rattle.its_plain.specs.declared.call.StepReply.TheVariants.{Idle, Ran, Refused, QueueFault}
use Rattle.its_plain.specs.Plain.{Plain, Redistributor, ConfState, conf_of, regs_of, maps_of}
use Rattle.step_views.specs.Pairs.{all_told}

-- ---- the device table

-- the entry of the first level, where the device table has two and the DeviceID is in range
abbrev pub level1_reads : Registers → ℕ → List (ℕ × ℕ)
level1_reads r dev =
    if (is_valid r.baser0 && is_indirect r.baser0) && is_device_id r.dev_bits dev then (level1_address r (dev / 8192), 8) ∷ [] else []

-- ---- configurations; those that processors share are read for each of them

-- the byte of an LPI, of a redistributor whose LPIs are on
abbrev pub byte_read : ℕ → ConfState → List (ℕ × ℕ)
byte_read intid c = if c.bases.on then (c.bases.prop.table.0 + (intid - first_lpi), 1) ∷ [] else []

abbrev pub byte_reads : ℕ → List Redistributor → List (ℕ × ℕ)
byte_reads intid rs = flat_map (λ r. byte_read intid (conf_of r)) rs

-- its whole table
abbrev pub table_read : Shape → ConfState → List (ℕ × ℕ)
table_read s c = if c.bases.on then (c.bases.prop.table.0, lpi_count s.lpi_bits) ∷ [] else []

abbrev pub table_reads : Shape → List Redistributor → List (ℕ × ℕ)
table_reads s rs = flat_map (λ r. table_read s (conf_of r)) rs

abbrev pub event_reads : Option Event → List Redistributor → List (ℕ × ℕ)
event_reads None rs = []
event_reads (Some event) rs = byte_reads event.intid.0 rs

-- that of a new event, whose LPI is in range
abbrev pub new_reads : Shape → Maps → List Redistributor → ℕ → ℕ → ℕ → List (ℕ × ℕ)
new_reads s m rs dev ev intid = if is_lpi s.lpi_bits intid && adds_event m dev ev then byte_reads intid rs else []

-- ---- commands

-- what a command reads beside its own bytes
unfoldable pub command_reads : Shape → Registers → Maps → List Redistributor → Command → List (ℕ × ℕ)
command_reads s r m rs (command.Mapd dev bits itt valid) = if valid then level1_reads r dev.0 else []
command_reads s r m rs (command.Mapti dev ev intid icid) = new_reads s m rs dev.0 ev.0 intid.0
command_reads s r m rs (command.Mapi dev ev icid) = new_reads s m rs dev.0 ev.0 ev.0
command_reads s r m rs (command.Inv dev ev) = event_reads (event_of m dev.0 ev.0) rs
command_reads s r m rs (command.Invall icid) = if is_some (collection_of m icid.0) then table_reads s rs else []
command_reads s r m rs (command.Mapc icid target valid) = []
command_reads s r m rs (command.Movi dev ev icid) = []
command_reads s r m rs (command.Int dev ev) = []
command_reads s r m rs (command.Clear dev ev) = []
command_reads s r m rs (command.Sync target) = []
command_reads s r m rs (command.Movall from to) = []
command_reads s r m rs (command.Discard dev ev) = []
command_reads s r m rs (command.Unknown opcode) = []

abbrev pub met_reads : Plain → ℕ → Option (List ℕ) → List (ℕ × ℕ)
met_reads u i None = []
met_reads u i (Some bytes) = command_reads u.layout.shape (regs_of u i) (maps_of u i) u.redistributors (decoded bytes)

-- where no command is met: the 32 bytes that no window has, or none
abbrev pub still_reads : StepReply → List (ℕ × ℕ)
still_reads (QueueFault addr) = (addr.0, 32) ∷ []
still_reads Idle = []
still_reads (Ran op) = []
still_reads (Refused op reason) = []

-- none where there is no command to take; else the command's 32 bytes, and then what it reads besides, each stretch once
unfoldable pub reads : Plain → ℕ → List (ℕ × ℕ)
reads u i = if is_idle u i then [] else all_told ((queue_place (regs_of u i), 32) ∷ []) (met_reads u i (next_bytes u i))

-- so where the 32 bytes of the command are these
unfoldable pub reads_by : Plain → ℕ → List ℕ → List (ℕ × ℕ)
reads_by u i bytes = if is_idle u i then [] else all_told ((queue_place (regs_of u i), 32) ∷ []) (met_reads u i (Some bytes))
