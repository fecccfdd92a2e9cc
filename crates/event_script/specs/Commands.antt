-- The commands that a `command` line can have, from its third field on.
use Rattle.std.specs.Prelude.{ℕ, ◌-◌, ◌%◌, ◌^◌, true, false, ◌==◌, List, Result, Ok}
use Rattle.its_command.specs.declared.command.Command.{Command}
use Rattle.its_command.specs.declared.command.Command.TheVariants as command
use Rattle.event_script.specs.Outcome.{◌>>=◌, ensure}
use Rattle.event_script.specs.Fields.{arg, number_within, device, event, interrupt, collection}
use Rattle.event_script.specs.declared.fault.Kind.{Kind}
use Rattle.event_script.specs.declared.fault.Kind.TheVariants as kind
use Rattle.event_script.specs.declared.words.CommandWord.{CommandWord}
use Rattle.event_script.specs.declared.words.CommandWord.TheVariants as on

-- how many fields the line of a command has, with `command` and the address
abbrev pub command_fields : CommandWord → ℕ
command_fields on.Mapd = 6
command_fields on.Unmapd = 4
command_fields on.Mapc = 5
command_fields on.Unmapc = 4
command_fields on.Mapti = 7
command_fields on.Mapi = 6
command_fields on.Movi = 6
command_fields on.Movall = 5
command_fields on.Int = 5
command_fields on.Clear = 5
command_fields on.Discard = 5
command_fields on.Inv = 5
command_fields on.Invall = 4
command_fields on.Sync = 4

-- the number of a processor, as a command has it
unfoldable pub rdbase : List ℕ → Result ℕ Kind
rdbase f = number_within 0 (2 ^ 36 - 1) f

-- the address of an interrupt translation table
unfoldable pub itt_address : List ℕ → Result ℕ Kind
itt_address f = do
  n ← number_within 0 (2 ^ 52 - 1) f
  _ ← ensure (n % 256 == 0) kind.Number
  Ok n

unfoldable pub event_id_bits : List ℕ → Result ℕ Kind
event_id_bits f = number_within 1 32 f

unfoldable pub mapd_of : List (List ℕ) → Result Command Kind
mapd_of fs = do
  dev ← device (arg fs 3)
  bits ← event_id_bits (arg fs 4)
  itt ← itt_address (arg fs 5)
  Ok (command.Mapd dev bits itt true)

-- V clear, and all other fields but the DeviceID zero
unfoldable pub unmapd_of : List (List ℕ) → Result Command Kind
unmapd_of fs = do
  dev ← device (arg fs 3)
  Ok (command.Mapd dev 1 0 false)

unfoldable pub mapc_of : List (List ℕ) → Result Command Kind
mapc_of fs = do
  icid ← collection (arg fs 3)
  target ← rdbase (arg fs 4)
  Ok (command.Mapc icid target true)

-- V clear, and all other fields but the ICID zero
unfoldable pub unmapc_of : List (List ℕ) → Result Command Kind
unmapc_of fs = do
  icid ← collection (arg fs 3)
  Ok (command.Mapc icid 0 false)

unfoldable pub mapti_of : List (List ℕ) → Result Command Kind
mapti_of fs = do
  dev ← device (arg fs 3)
  ev ← event (arg fs 4)
  intid ← interrupt (arg fs 5)
  icid ← collection (arg fs 6)
  Ok (command.Mapti dev ev intid icid)

unfoldable pub mapi_of : List (List ℕ) → Result Command Kind
mapi_of fs = do
  dev ← device (arg fs 3)
  ev ← event (arg fs 4)
  icid ← collection (arg fs 5)
  Ok (command.Mapi dev ev icid)

unfoldable pub movi_of : List (List ℕ) → Result Command Kind
movi_of fs = do
  dev ← device (arg fs 3)
  ev ← event (arg fs 4)
  icid ← collection (arg fs 5)
  Ok (command.Movi dev ev icid)

unfoldable pub movall_of : List (List ℕ) → Result Command Kind
movall_of fs = do
  from ← rdbase (arg fs 3)
  to ← rdbase (arg fs 4)
  Ok (command.Movall from to)

unfoldable pub int_of : List (List ℕ) → Result Command Kind
int_of fs = do
  dev ← device (arg fs 3)
  ev ← event (arg fs 4)
  Ok (command.Int dev ev)

unfoldable pub clear_of : List (List ℕ) → Result Command Kind
clear_of fs = do
  dev ← device (arg fs 3)
  ev ← event (arg fs 4)
  Ok (command.Clear dev ev)

unfoldable pub discard_of : List (List ℕ) → Result Command Kind
discard_of fs = do
  dev ← device (arg fs 3)
  ev ← event (arg fs 4)
  Ok (command.Discard dev ev)

unfoldable pub inv_of : List (List ℕ) → Result Command Kind
inv_of fs = do
  dev ← device (arg fs 3)
  ev ← event (arg fs 4)
  Ok (command.Inv dev ev)

unfoldable pub invall_of : List (List ℕ) → Result Command Kind
invall_of fs = do
  icid ← collection (arg fs 3)
  Ok (command.Invall icid)

unfoldable pub sync_of : List (List ℕ) → Result Command Kind
sync_of fs = do
  target ← rdbase (arg fs 3)
  Ok (command.Sync target)

unfoldable pub command_of : CommandWord → List (List ℕ) → Result Command Kind
command_of on.Mapd fs = mapd_of fs
command_of on.Unmapd fs = unmapd_of fs
command_of on.Mapc fs = mapc_of fs
command_of on.Unmapc fs = unmapc_of fs
command_of on.Mapti fs = mapti_of fs
command_of on.Mapi fs = mapi_of fs
command_of on.Movi fs = movi_of fs
command_of on.Movall fs = movall_of fs
command_of on.Int fs = int_of fs
command_of on.Clear fs = clear_of fs
command_of on.Discard fs = discard_of fs
command_of on.Inv fs = inv_of fs
command_of on.Invall fs = invall_of fs
command_of on.Sync fs = sync_of fs
