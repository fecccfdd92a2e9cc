-- The machine of a generated script: four virtual processors, and one window of memory that has every table.
use Rattle.std.specs.Prelude.{ℕ, false, [], ◌∷◌, None}
use Rattle.its_types.specs.declared.ids.Addr.{Addr}
use Rattle.its_types.specs.declared.machine.Profile.TheVariants.{One}
use Rattle.its_types.specs.declared.machine.Shape.{Shape}
use Rattle.its_plain.specs.declared.desc.Desc.{Desc}
use Rattle.its_plain.specs.declared.desc.LpiTables.{LpiTables}
use Rattle.its_plain.specs.declared.desc.LpiTables.TheVariants.{Described}
use Rattle.event_script.specs.Described.{default_limits, memory_limit}

-- DeviceIDs and LPIs of 16 bits
abbrev pub shape : Shape
shape = record { vcpus = 4; dev_bits = 16; lpi_bits = 16; profile = One; linux = false }

abbrev pub at : ℕ → Addr
at address = record { 0 = address }

-- 2 MiB of memory
abbrev pub window : Addr × ℕ
window = (at 0x80000000, 0x200000)

-- the configuration table, and the pending tables of the virtual processors 0 to 3
abbrev pub tables : LpiTables
tables = Described (at 0x80030000) (at 0x80040000 ∷ at 0x80050000 ∷ at 0x80060000 ∷ at 0x80070000 ∷ [])

unfoldable pub description : Desc
description = record {
  shape = shape;
  shards = 16;
  limits = default_limits false;
  windows = window ∷ [];
  memory_limit = memory_limit;
  tables = tables;
  fills = [];
  translators = record { restore = None; frames = None } ∷ [];
  requesters = [];
  from_kvm = false;
  track = false;
}
