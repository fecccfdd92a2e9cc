-- Commands as 32 bytes (IHI 0069, section 5.3): four doublewords of 8 bytes, least significant byte first.
use Rattle.std.specs.Prelude.{◌≡◌, ◌<◌, ◌≤◌, ℕ, ◌+◌, ◌-◌, ◌*◌, ◌%◌, ◌^◌, Bool, false, ◌==◌, if◌then◌else◌, List, ◌++◌, drop}
use Rattle.byteorder.specs.Endian.{little_number, little_bytes}
use Rattle.its_types.specs.Bits.{field, bit}
use Rattle.its_types.specs.declared.ids.DeviceId.{DeviceId}
use Rattle.its_types.specs.declared.ids.EventId.{EventId}
use Rattle.its_types.specs.declared.ids.Icid.{Icid}
use Rattle.its_command.specs.Opcodes.{is_known}
use Rattle.its_command.specs.declared.command.Command.{Command}
use Rattle.its_command.specs.declared.command.Command.TheVariants.{Movi, Int, Clear, Sync, Mapd, Mapc, Mapti, Mapi, Inv, Invall, Movall, Discard, Unknown}
use Rattle.its_command.specs.declared.command.Op.{Op}
use Rattle.its_command.specs.declared.command.Op.TheVariants as op

-- ---- the fields of 32 bytes

-- the k-th of the four doublewords
abbrev pub doubleword : List ℕ → ℕ → ℕ
doubleword bytes k = little_number 8 (drop (8 * k) bytes)

-- DWk[high:low], as the standard writes it
abbrev pub dw : List ℕ → ℕ → ℕ → ℕ → ℕ
dw bytes k high low = field (doubleword bytes k) low (high + 1 - low)

abbrev pub opcode_of : List ℕ → ℕ
opcode_of bytes = dw bytes 0 7 0

abbrev pub device_of : List ℕ → ℕ
device_of bytes = dw bytes 0 63 32

abbrev pub event_of : List ℕ → ℕ
event_of bytes = dw bytes 1 31 0

abbrev pub intid_of : List ℕ → ℕ
intid_of bytes = dw bytes 1 63 32

abbrev pub icid_of : List ℕ → ℕ
icid_of bytes = dw bytes 2 15 0

-- RDbase, a processor number: of MAPC and SYNC, and the first of MOVALL
abbrev pub target_of : List ℕ → ℕ
target_of bytes = dw bytes 2 51 16

-- the second RDbase of MOVALL
abbrev pub second_target_of : List ℕ → ℕ
second_target_of bytes = dw bytes 3 51 16

-- EventID bits: Size, in DW1[4:0], is one less
abbrev pub event_id_bits_of : List ℕ → ℕ
event_id_bits_of bytes = dw bytes 1 4 0 + 1

-- the address of an interrupt translation table: its bits 51 to 8 stand where they are
abbrev pub itt_of : List ℕ → ℕ
itt_of bytes = dw bytes 2 51 8 * 2 ^ 8

-- V
abbrev pub is_valid : List ℕ → Bool
is_valid bytes = dw bytes 2 63 63 == 1

-- ---- what a command is

-- the bytes are the command: its opcode and each of its fields stand at their bits, and all other bits are free
abbrev pub IsCommand : List ℕ → Command → Type 0
IsCommand b (Movi dev ev icid) = (opcode_of b ≡ 0x01) × (device_of b ≡ dev.0) × (event_of b ≡ ev.0) × (icid_of b ≡ icid.0)
IsCommand b (Int dev ev) = (opcode_of b ≡ 0x03) × (device_of b ≡ dev.0) × (event_of b ≡ ev.0)
IsCommand b (Clear dev ev) = (opcode_of b ≡ 0x04) × (device_of b ≡ dev.0) × (event_of b ≡ ev.0)
IsCommand b (Sync target) = (opcode_of b ≡ 0x05) × (target_of b ≡ target)
IsCommand b (Mapd dev bits itt valid) = (opcode_of b ≡ 0x08) × (device_of b ≡ dev.0) × (event_id_bits_of b ≡ bits) × (itt_of b ≡ itt) × (is_valid b ≡ valid)
IsCommand b (Mapc icid target valid) = (opcode_of b ≡ 0x09) × (icid_of b ≡ icid.0) × (target_of b ≡ target) × (is_valid b ≡ valid)
IsCommand b (Mapti dev ev intid icid) = (opcode_of b ≡ 0x0A) × (device_of b ≡ dev.0) × (event_of b ≡ ev.0) × (intid_of b ≡ intid.0) × (icid_of b ≡ icid.0)
IsCommand b (Mapi dev ev icid) = (opcode_of b ≡ 0x0B) × (device_of b ≡ dev.0) × (event_of b ≡ ev.0) × (icid_of b ≡ icid.0)
IsCommand b (Inv dev ev) = (opcode_of b ≡ 0x0C) × (device_of b ≡ dev.0) × (event_of b ≡ ev.0)
IsCommand b (Invall icid) = (opcode_of b ≡ 0x0D) × (icid_of b ≡ icid.0)
IsCommand b (Movall from to) = (opcode_of b ≡ 0x0E) × (target_of b ≡ from) × (second_target_of b ≡ to)
IsCommand b (Discard dev ev) = (opcode_of b ≡ 0x0F) × (device_of b ≡ dev.0) × (event_of b ≡ ev.0)
IsCommand b (Unknown opcode) = (opcode_of b ≡ opcode) × (is_known opcode ≡ false)

-- the one command that the bytes are
unfoldable pub decoded : List ℕ → Command
decoded b =
    let dev : DeviceId = record { 0 = device_of b } in
    let ev : EventId = record { 0 = event_of b } in
    let icid : Icid = record { 0 = icid_of b } in
    let opcode = opcode_of b in
    if opcode == 0x01 then Movi dev ev icid
    else (if opcode == 0x03 then Int dev ev
    else (if opcode == 0x04 then Clear dev ev
    else (if opcode == 0x05 then Sync (target_of b)
    else (if opcode == 0x08 then Mapd dev (event_id_bits_of b) (itt_of b) (is_valid b)
    else (if opcode == 0x09 then Mapc icid (target_of b) (is_valid b)
    else (if opcode == 0x0A then Mapti dev ev (record { 0 = intid_of b }) icid
    else (if opcode == 0x0B then Mapi dev ev icid
    else (if opcode == 0x0C then Inv dev ev
    else (if opcode == 0x0D then Invall icid
    else (if opcode == 0x0E then Movall (target_of b) (second_target_of b)
    else (if opcode == 0x0F then Discard dev ev
    else Unknown opcode)))))))))))

-- ---- the bytes of a command

abbrev pub doublewords : ℕ → ℕ → ℕ → ℕ → List ℕ
doublewords a b c d = little_bytes 8 a ++ little_bytes 8 b ++ little_bytes 8 c ++ little_bytes 8 d

-- the first doubleword of a command of a device
abbrev pub of_device : ℕ → ℕ → ℕ
of_device opcode dev = opcode + dev * 2 ^ 32

-- an RDbase where it stands
abbrev pub at_target : ℕ → ℕ
at_target number = number * 2 ^ 16

-- V where it stands
abbrev pub at_valid : Bool → ℕ
at_valid valid = bit valid * 2 ^ 63

-- the bytes of the command with zeros at all bits that it has no field for
unfoldable pub encoded : Command → List ℕ
encoded (Movi dev ev icid) = doublewords (of_device 0x01 dev.0) ev.0 icid.0 0
encoded (Int dev ev) = doublewords (of_device 0x03 dev.0) ev.0 0 0
encoded (Clear dev ev) = doublewords (of_device 0x04 dev.0) ev.0 0 0
encoded (Sync target) = doublewords 0x05 0 (at_target target) 0
encoded (Mapd dev bits itt valid) = doublewords (of_device 0x08 dev.0) (bits - 1) (itt + at_valid valid) 0
encoded (Mapc icid target valid) = doublewords 0x09 0 (icid.0 + at_target target + at_valid valid) 0
encoded (Mapti dev ev intid icid) = doublewords (of_device 0x0A dev.0) (ev.0 + intid.0 * 2 ^ 32) icid.0 0
encoded (Mapi dev ev icid) = doublewords (of_device 0x0B dev.0) ev.0 icid.0 0
encoded (Inv dev ev) = doublewords (of_device 0x0C dev.0) ev.0 0 0
encoded (Invall icid) = doublewords 0x0D 0 icid.0 0
encoded (Movall from to) = doublewords 0x0E 0 (at_target from) (at_target to)
encoded (Discard dev ev) = doublewords (of_device 0x0F dev.0) ev.0 0 0
encoded (Unknown opcode) = doublewords opcode 0 0 0

-- ---- the bits that a field has

abbrev pub IsEventIdBits : ℕ → Type 0
IsEventIdBits bits = (1 ≤ bits) × (bits ≤ 32)

abbrev pub IsIttAddr : ℕ → Type 0
IsIttAddr addr = (addr % 256 ≡ 0) × (addr < 2 ^ 52)

abbrev pub IsRdBase : ℕ → Type 0
IsRdBase number = number < 2 ^ 36

abbrev pub IsUnknownOp : ℕ → Type 0
IsUnknownOp opcode = (opcode < 256) × (is_known opcode ≡ false)

-- each field is within its bits
abbrev pub IsWithinBits : Command → Type 0
IsWithinBits (Movi dev ev icid) = (dev.0 < 2 ^ 32) × (ev.0 < 2 ^ 32) × (icid.0 < 2 ^ 16)
IsWithinBits (Int dev ev) = (dev.0 < 2 ^ 32) × (ev.0 < 2 ^ 32)
IsWithinBits (Clear dev ev) = (dev.0 < 2 ^ 32) × (ev.0 < 2 ^ 32)
IsWithinBits (Sync target) = IsRdBase target
IsWithinBits (Mapd dev bits itt valid) = (dev.0 < 2 ^ 32) × IsEventIdBits bits × IsIttAddr itt
IsWithinBits (Mapc icid target valid) = (icid.0 < 2 ^ 16) × IsRdBase target
IsWithinBits (Mapti dev ev intid icid) = (dev.0 < 2 ^ 32) × (ev.0 < 2 ^ 32) × (intid.0 < 2 ^ 32) × (icid.0 < 2 ^ 16)
IsWithinBits (Mapi dev ev icid) = (dev.0 < 2 ^ 32) × (ev.0 < 2 ^ 32) × (icid.0 < 2 ^ 16)
IsWithinBits (Inv dev ev) = (dev.0 < 2 ^ 32) × (ev.0 < 2 ^ 32)
IsWithinBits (Invall icid) = icid.0 < 2 ^ 16
IsWithinBits (Movall from to) = IsRdBase from × IsRdBase to
IsWithinBits (Discard dev ev) = (dev.0 < 2 ^ 32) × (ev.0 < 2 ^ 32)
IsWithinBits (Unknown opcode) = IsUnknownOp opcode

-- decoding an encoding gives the command back
abbrev pub DecodesBack : Type 0
DecodesBack = (c : Command) → IsWithinBits c → decoded (encoded c) ≡ c

-- bytes are just the one command that they decode to
abbrev pub IsOneCommand : Type 0
IsOneCommand = (bytes : List ℕ) (c : Command) → IsCommand bytes c → c ≡ decoded bytes

-- ---- the name of a command

abbrev pub op_of : Command → Op
op_of (Movi dev ev icid) = op.Movi
op_of (Int dev ev) = op.Int
op_of (Clear dev ev) = op.Clear
op_of (Sync target) = op.Sync
op_of (Mapd dev bits itt valid) = op.Mapd
op_of (Mapc icid target valid) = op.Mapc
op_of (Mapti dev ev intid icid) = op.Mapti
op_of (Mapi dev ev icid) = op.Mapi
op_of (Inv dev ev) = op.Inv
op_of (Invall icid) = op.Invall
op_of (Movall from to) = op.Movall
op_of (Discard dev ev) = op.Discard
op_of (Unknown opcode) = op.Unknown opcode
