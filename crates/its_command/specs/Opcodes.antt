-- The opcodes of commands (IHI 0069, section 5.3).
use Rattle.std.specs.Prelude.{ℕ, Bool, ◌||◌, ◌==◌}
use Rattle.its_command.specs.declared.command.Op.{Op}
use Rattle.its_command.specs.declared.command.Op.TheVariants as ops

-- the twelve that a translator of physical LPIs knows
abbrev pub is_known : ℕ → Bool
is_known opcode =
    opcode == 0x01 || opcode == 0x03 || opcode == 0x04 || opcode == 0x05 || opcode == 0x08 || opcode == 0x09
    || opcode == 0x0A || opcode == 0x0B || opcode == 0x0C || opcode == 0x0D || opcode == 0x0E || opcode == 0x0F

-- byte 0 of a command
abbrev pub opcode : Op → ℕ
opcode ops.Movi = 0x01
opcode ops.Int = 0x03
opcode ops.Clear = 0x04
opcode ops.Sync = 0x05
opcode ops.Mapd = 0x08
opcode ops.Mapc = 0x09
opcode ops.Mapti = 0x0A
opcode ops.Mapi = 0x0B
opcode ops.Inv = 0x0C
opcode ops.Invall = 0x0D
opcode ops.Movall = 0x0E
opcode ops.Discard = 0x0F
opcode (ops.Unknown byte) = byte
