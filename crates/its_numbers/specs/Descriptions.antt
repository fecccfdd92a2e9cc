-- Descriptions as they are given in numbers, and the description and the limits that they stand for.
use Rattle.std.specs.Prelude.{ℕ, ◌-◌, Bool, false, ◌&&◌, ◌==◌, nat_le, nat_lt, if◌then◌else◌, List, [], ◌∷◌, length, take, drop, map, Option, Some, None}
use Rattle.std.specs.List.{list_all}
use Rattle.gicr_regs.specs.declared.values.GicrRegisters.{GicrRegisters}
use Rattle.gicr_regs.specs.declared.values.GicrValues.{GicrValues}
use Rattle.gits_regs.specs.declared.values.RegValues.{RegValues}
use Rattle.its_types.specs.Ranges.{most_vcpus}
use Rattle.its_types.specs.declared.ids.Addr.{Addr}
use Rattle.its_types.specs.declared.machine.Limits.{Limits}
use Rattle.its_types.specs.declared.machine.Profile.{Profile}
use Rattle.its_types.specs.declared.machine.Profile.TheVariants.{One, Two}
use Rattle.its_types.specs.declared.machine.Shape.{Shape}
use Rattle.its_plain.specs.declared.desc.Desc.{Desc}
use Rattle.its_plain.specs.declared.desc.Fill.{Fill}
use Rattle.its_plain.specs.declared.desc.Its.{Its}
use Rattle.its_plain.specs.declared.desc.LpiTables.{LpiTables}
use Rattle.its_plain.specs.declared.desc.LpiTables.TheVariants.{Described, Registers}
use Rattle.its_plain.specs.declared.desc.Requesters.{Requesters}
use Rattle.its_numbers.specs.declared.limits.GuestLimits.{GuestLimits}
use Rattle.its_numbers.specs.declared.numbers.DescriptionIn.{DescriptionIn}
use Rattle.its_numbers.specs.declared.numbers.FillIn.{FillIn}
use Rattle.its_numbers.specs.declared.numbers.RedistributorIn.{RedistributorIn}
use Rattle.its_numbers.specs.declared.numbers.RequestersIn.{RequestersIn}
use Rattle.its_numbers.specs.declared.numbers.TranslatorIn.{TranslatorIn}
use Rattle.its_numbers.specs.declared.numbers.WindowIn.{WindowIn}

-- ---- ranges

abbrev pub between : ℕ → ℕ → ℕ → Bool
between least most n = nat_le least n && nat_le n most

-- each number by itself
abbrev pub numbers_in_range : DescriptionIn → Bool
numbers_in_range d =
    between 1 most_vcpus d.vcpus && between 16 20 d.device_bits && between 14 20 d.lpi_bits && between 1 2 d.profile && nat_lt d.programmed 2 && nat_lt d.restored 3
    && nat_lt d.linux_guest 2

-- devices write to a translator by address, or they don't
abbrev pub translator_in_range : TranslatorIn → Bool
translator_in_range t = nat_lt t.has_frames 2

-- one or two of them
abbrev pub translators_in_range : List TranslatorIn → Bool
translators_in_range ts = between 1 2 (length ts) && list_all translator_in_range ts

-- so many pending tables, or so many redistributors' registers, as virtual processors
abbrev pub counts_in_range : DescriptionIn → ℕ → ℕ → Bool
counts_in_range d pending redistributors = if d.programmed == 0 then pending == d.vcpus else (redistributors == d.vcpus)

-- the fills take n bytes together
abbrev pub lengths_fit : List FillIn → ℕ → Bool
lengths_fit [] n = n == 0
lengths_fit (f ∷ fills) n = nat_le f.length n && lengths_fit fills (n - f.length)

-- all of them
abbrev pub is_in_range : DescriptionIn → List TranslatorIn → ℕ → ℕ → List FillIn → ℕ → Bool
is_in_range d translators pending redistributors fills n =
    numbers_in_range d && translators_in_range translators && counts_in_range d pending redistributors && lengths_fit fills n

-- ---- the description

abbrev pub profile_of : ℕ → Profile
profile_of n = if n == 1 then One else Two

abbrev pub window_of : WindowIn → Addr × ℕ
window_of w = (record { 0 = w.base }, w.length)

abbrev pub address_of : ℕ → Addr
address_of n = record { 0 = n }

-- each fill takes the next bytes
abbrev pub fills_of : List FillIn → List ℕ → List Fill
fills_of [] bytes = []
fills_of (f ∷ fills) bytes = record { addr = address_of f.address; bytes = take f.length bytes } ∷ fills_of fills (drop f.length bytes)

abbrev pub registers_in : RedistributorIn → GicrRegisters
registers_in r = record { ctlr = r.ctlr; propbaser = r.propbaser; pendbaser = r.pendbaser }

abbrev pub registers_of : List RedistributorIn → GicrValues
registers_of redistributors = record { registers = map registers_in redistributors }

abbrev pub tables_of : DescriptionIn → List ℕ → List RedistributorIn → LpiTables
tables_of d pending redistributors =
    if d.programmed == 0 then Described (address_of d.config) (map address_of pending)
    else Registers (registers_of redistributors)

abbrev pub values_of : TranslatorIn → RegValues
values_of t = record { ctlr = t.ctlr; cbaser = t.cbaser; creadr = t.creadr; cwriter = t.cwriter; baser0 = t.baser0; baser1 = t.baser1 }

-- all are restored, or none is
abbrev pub restore_of : DescriptionIn → TranslatorIn → Option RegValues
restore_of d t = if d.restored == 0 then None else Some (values_of t)

-- where the frames of a translator stand, if devices write by address
abbrev pub frames_of : TranslatorIn → Option Addr
frames_of t = if t.has_frames == 0 then None else Some (address_of t.frames)

abbrev pub translator_of : DescriptionIn → TranslatorIn → Its
translator_of d t = record { restore = restore_of d t; frames = frames_of t }

abbrev pub translators_of : DescriptionIn → List TranslatorIn → List Its
translators_of d ts = map (translator_of d) ts

abbrev pub requesters_of : RequestersIn → Requesters
requesters_of r = record { first = r.first; last = r.last; dev = record { 0 = r.device } }

abbrev pub shape_of : DescriptionIn → Shape
shape_of d = record { vcpus = d.vcpus; dev_bits = d.device_bits; lpi_bits = d.lpi_bits; profile = profile_of d.profile; linux = d.linux_guest == 1 }

-- of so many translators: the last stamps of two share a word with a place
abbrev pub limits_of : ℕ → Limits
limits_of translators = record { stamp_last = if translators == 1 then 16777215 else 4095; place_last = 1099511627775 }

-- what the numbers stand for
abbrev pub description_of : DescriptionIn → List TranslatorIn → List WindowIn → List ℕ → List RedistributorIn → List RequestersIn → List FillIn → List ℕ → Desc
description_of d translators windows pending redistributors requesters fills bytes = record {
  shape = shape_of d;
  shards = 1;
  limits = limits_of (length translators);
  windows = map window_of windows;
  tables = tables_of d pending redistributors;
  fills = fills_of fills bytes;
  memory_limit = 18446744073709551615;
  translators = translators_of d translators;
  requesters = map requesters_of requesters;
  from_kvm = d.restored == 2;
  track = false;
}

-- ---- how much a guest may take

abbrev pub guest_limits_of : DescriptionIn → GuestLimits
guest_limits_of d = record { events = d.event_limit; devices = d.device_limit; memory = d.memory_limit }
