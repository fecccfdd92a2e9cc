-- When a translation may end: steps and writes of registers that leave the maps, and a count of the others.
use Rattle.std.specs.Prelude.{ℕ, ◌+◌, Bool, true, false, ◌||◌, ◌==◌, nat_lt, nat_le, if◌then◌else◌}
use Rattle.its_command.specs.declared.command.Op.{Op}
use Rattle.its_command.specs.declared.command.Op.TheVariants as op
use Rattle.its_plain.specs.declared.call.StepReply.{StepReply}
use Rattle.its_plain.specs.declared.call.StepReply.TheVariants.{Idle, Ran, Refused, QueueFault}
use Rattle.its_numbers.specs.Limits.{no_limit}

-- a command of this name leaves the maps
abbrev pub leaves_maps : Op → Bool
leaves_maps op.Int = true
leaves_maps op.Clear = true
leaves_maps op.Sync = true
leaves_maps op.Inv = true
leaves_maps op.Invall = true
leaves_maps op.Movall = true
leaves_maps (op.Unknown opcode) = true
leaves_maps op.Movi = false
leaves_maps op.Mapd = false
leaves_maps op.Mapc = false
leaves_maps op.Mapti = false
leaves_maps op.Mapi = false
leaves_maps op.Discard = false

-- so does a step that was answered so
abbrev pub step_leaves_maps : StepReply → Bool
step_leaves_maps (Ran name) = leaves_maps name
step_leaves_maps (Refused name reason) = true
step_leaves_maps (QueueFault addr) = true
step_leaves_maps Idle = true

-- a register at this offset is neither GITS_BASER0 nor GITS_BASER1
abbrev pub is_no_table : ℕ → Bool
is_no_table off = nat_lt off 256 || nat_le 272 off

-- the next number; after the greatest one comes 0
abbrev pub next_count : ℕ → ℕ
next_count n = if n == no_limit then 0 else (n + 1)

abbrev pub counted : Bool → ℕ → ℕ
counted leaves n = if leaves then n else next_count n
