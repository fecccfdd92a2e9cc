-- The commands of a generated script: first those that map collections, devices and events, then those that move events.
use Rattle.std.specs.Prelude.{ℕ, ◌+◌, ◌-◌, ◌*◌, ◌%◌, true, List, ◌∷◌, ◌++◌, map}
use Rattle.std.specs.List.{flat_map, range_with_len}
use Rattle.its_command.specs.declared.command.Command.{Command}
use Rattle.its_command.specs.declared.command.Command.TheVariants.{Mapc, Mapd, Mapti, Movi}

-- a collection of each virtual processor, with its number
abbrev pub map_collection : ℕ → Command
map_collection icid = Mapc (record { 0 = icid }) icid true

-- where the interrupt translation table of a device stands, which has 64 entries of 8 bytes; devices are counted from 1
abbrev pub itt_of : ℕ → ℕ
itt_of dev = 0x800C0000 + 0x200 * (dev - 1)

-- 6 EventID bits: 64 events
abbrev pub map_device : ℕ → Command
map_device dev = Mapd (record { 0 = dev }) 6 (itt_of dev) true

-- the LPI of an event: no two events have the same
abbrev pub lpi_of : ℕ → ℕ → ℕ
lpi_of dev ev = 8192 + 64 * (dev - 1) + ev

-- events go to the four collections in turn
abbrev pub map_event : ℕ → ℕ → Command
map_event dev ev = Mapti (record { 0 = dev }) (record { 0 = ev }) (record { 0 = lpi_of dev ev }) (record { 0 = ev % 4 })

-- the first events of a device
unfoldable pub event_commands : ℕ → ℕ → List Command
event_commands dev count = map (map_event dev) (range_with_len 0 count)

-- a device, and then its 64 events
unfoldable pub device_commands : ℕ → List Command
device_commands dev = map_device dev ∷ event_commands dev 64

-- the collections, and then the devices 1 to n with their events
unfoldable pub setup_commands : ℕ → List Command
setup_commands n = map map_collection (range_with_len 0 4) ++ flat_map device_commands (range_with_len 1 n)

-- the j-th move gives an event of one of n devices to collection 0
abbrev pub move_event : ℕ → ℕ → Command
move_event n j = Movi (record { 0 = 1 + j % n }) (record { 0 = j % 64 }) (record { 0 = 0 })

unfoldable pub move_commands : ℕ → ℕ → List Command
move_commands n count = map (move_event n) (range_with_len 0 count)
