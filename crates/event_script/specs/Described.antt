-- What a draft says of the machine.
use Rattle.std.specs.Prelude.{ℕ, ◌-◌, ◌^◌, Bool, if◌then◌else◌, List, [], ◌∷◌, length, map, filter_map, Option, Result, Ok}
use Rattle.std.specs.Option.{ok_or, unwrap_or}
use Rattle.gicr_regs.specs.declared.values.GicrRegisters.{GicrRegisters}
use Rattle.gicr_regs.specs.declared.values.GicrValues.{GicrValues}
use Rattle.its_types.specs.declared.machine.Limits.{Limits}
use Rattle.its_types.specs.declared.machine.Profile.TheVariants.{One}
use Rattle.its_types.specs.declared.machine.Shape.{Shape}
use Rattle.its_plain.specs.declared.desc.Desc.{Desc}
use Rattle.its_plain.specs.declared.desc.Its.{Its}
use Rattle.its_plain.specs.declared.desc.LpiTables.{LpiTables}
use Rattle.its_plain.specs.declared.desc.LpiTables.TheVariants.{Described, Registers}
use Rattle.event_script.specs.Outcome.{◌>>=◌}
use Rattle.event_script.specs.declared.fault.Kind.{Kind}
use Rattle.event_script.specs.declared.fault.Kind.TheVariants as kind
use Rattle.event_script.specs.declared.draft.Draft.{Draft}
use Rattle.event_script.specs.declared.draft.IdBits.{IdBits}

-- the last stamp that there may be: two of them share a word with a place
abbrev pub most_stamp : Bool → ℕ
most_stamp pair = if pair then 4095 else 2 ^ 24 - 1

-- of a machine with one translator, or with two
abbrev pub default_limits : Bool → Limits
default_limits pair = record { stamp_last = most_stamp pair; place_last = 2 ^ 40 - 1 }

abbrev pub default_ids : IdBits
default_ids = record { dev = 16; lpi = 16 }

-- how many bytes the windows may have together
abbrev pub memory_limit : ℕ
memory_limit = 67108864

-- of so many virtual processors
abbrev pub shape_of : Draft → Shape
shape_of d = record {
  vcpus = length d.pending;
  dev_bits = (unwrap_or d.ids default_ids).dev;
  lpi_bits = (unwrap_or d.ids default_ids).lpi;
  profile = unwrap_or d.profile One;
  linux = d.linux;
}

-- one translator, or two
abbrev pub translators_of : Draft → List Its
translators_of d = if d.pair then d.first ∷ d.second ∷ [] else d.first ∷ []

-- the tables that the description has, where all of them are there
unfoldable pub described_tables : Draft → Result LpiTables Kind
described_tables d = do
  config ← ok_or d.config kind.Missing
  Ok (Described config (filter_map (λ table. table) d.pending))

-- the registers of a redistributor that no line gives
abbrev pub no_registers : GicrRegisters
no_registers = record { ctlr = 0; propbaser = 0; pendbaser = 0 }

-- those of each processor
abbrev pub registers_of : List (Option GicrRegisters) → GicrValues
registers_of places = record { registers = map (λ place. unwrap_or place no_registers) places }

-- where the tables of the redistributors are
abbrev pub tables_of : Draft → Result LpiTables Kind
tables_of d = if d.gicr then Ok (Registers (registers_of d.registers)) else described_tables d

-- a machine with so many shards, and these tables
abbrev pub desc_with : Draft → ℕ → LpiTables → Desc
desc_with d shards tables = record {
  shape = shape_of d;
  shards = shards;
  limits = unwrap_or d.limits (default_limits d.pair);
  windows = d.windows;
  memory_limit = memory_limit;
  tables = tables;
  fills = d.fills;
  translators = translators_of d;
  requesters = d.requesters;
  from_kvm = d.from_kvm;
  track = d.track;
}

-- the description, where all of it is there
unfoldable pub desc_of : Draft → Result Desc Kind
desc_of d = do
  shards ← ok_or d.shards kind.Missing
  tables ← tables_of d
  Ok (desc_with d shards tables)

-- the description that a call is read by: no call depends on shards and tables
abbrev pub desc_so_far : Draft → Desc
desc_so_far d = desc_with d 1 (Registers (registers_of d.registers))
