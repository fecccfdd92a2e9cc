-- Why commands were refused, in words: the rule, the value of the command, and what the machine allows.
use Rattle.std.specs.Prelude.{ℕ, Bool, false, not, ◌-◌, ◌*◌, ◌/◌, ◌^◌, ◌==◌, nat_lt, if◌then◌else◌, List, [], ◌++◌, codes, slice_get, Option, Some, None}
use Rattle.call_facts.specs.declared.answers.Key.TheVariants as key
use Rattle.call_facts.specs.declared.pairs.PairState.{PairState}
use Rattle.gits_regs.specs.Registers.{collection_places, is_indirect, pages}
use Rattle.its_command.specs.declared.command.Command.{Command}
use Rattle.its_command.specs.declared.command.Command.TheVariants as command
use Rattle.its_plain.specs.Plain.{Plain, Translator}
use Rattle.its_plain.specs.declared.call.Reason.{Reason}
use Rattle.its_plain.specs.declared.call.Reason.TheVariants as reason
use Rattle.its_types.specs.Ranges.{is_device_id}
use Rattle.its_types.specs.declared.ids.DeviceId.{DeviceId}
use Rattle.its_types.specs.declared.ids.EventId.{EventId}
use Rattle.its_types.specs.declared.ids.Icid.{Icid}
use Rattle.its_types.specs.declared.ids.Vcpu.{Vcpu}
use Rattle.its_types.specs.declared.translation.Bases.{Bases}
use Rattle.its_types.specs.declared.translation.Device.{Device}
use Rattle.its_types.specs.declared.translation.Event.{Event}
use Rattle.its_explain.specs.Book.{changer}
use Rattle.its_explain.specs.Looks.{collection_in, pair_at, register_at}
use Rattle.its_explain.specs.Numbers.{enclosed, numbered, by_line, since_line}
use Rattle.its_explain.specs.Views.{bases_at}
use Rattle.its_explain.specs.Watched.{maps_at}
use Rattle.its_explain.specs.declared.book.Book.{Book}
use Rattle.its_explain.specs.declared.facts.Taken.{Taken}

-- ---- what a command names

-- its device, or 0
abbrev pub device_named : Command → DeviceId
device_named (command.Movi dev ev icid) = dev
device_named (command.Int dev ev) = dev
device_named (command.Clear dev ev) = dev
device_named (command.Mapd dev bits itt valid) = dev
device_named (command.Mapti dev ev intid icid) = dev
device_named (command.Mapi dev ev icid) = dev
device_named (command.Inv dev ev) = dev
device_named (command.Discard dev ev) = dev
device_named _ = record { 0 = 0 }

-- its event, or 0
abbrev pub event_named : Command → EventId
event_named (command.Movi dev ev icid) = ev
event_named (command.Int dev ev) = ev
event_named (command.Clear dev ev) = ev
event_named (command.Mapti dev ev intid icid) = ev
event_named (command.Mapi dev ev icid) = ev
event_named (command.Inv dev ev) = ev
event_named (command.Discard dev ev) = ev
event_named _ = record { 0 = 0 }

-- its collection
abbrev pub collection_named : Command → Option Icid
collection_named (command.Movi dev ev icid) = Some icid
collection_named (command.Mapc icid target valid) = Some icid
collection_named (command.Mapti dev ev intid icid) = Some icid
collection_named (command.Mapi dev ev icid) = Some icid
collection_named (command.Invall icid) = Some icid
collection_named _ = None

-- the processor that isn't one of so many
abbrev pub target_named : ℕ → Command → ℕ
target_named vcpus (command.Mapc icid target valid) = target
target_named vcpus (command.Sync target) = target
target_named vcpus (command.Movall from to) = if nat_lt from vcpus then to else from
target_named vcpus _ = vcpus

-- ---- DeviceRange, SizeRange and TargetRange

unfoldable pub device_bits_text : ℕ → ℕ → List ℕ
device_bits_text dev bits = numbered (codes "device ") dev ++ numbered (codes ": DeviceIDs have ") bits ++ codes " bits (section 12.19.16)"

-- entries of 8 bytes in pages of 64 KiB, of which an entry of the first level leads to one
abbrev pub first_level_text : ℕ → List ℕ
first_level_text dev = enclosed (codes ": entry ") (dev / 8192) (codes " of its first level isn't valid, or no window has it (section 12.19.1)")

abbrev pub flat_text : ℕ → List ℕ
flat_text baser = enclosed (codes ", which by GITS_BASER0 is for 0 to ") (pages baser * 8192 - 1) (codes " (section 12.19.1)")

abbrev pub level_text : ℕ → ℕ → List ℕ
level_text baser dev = if is_indirect baser then first_level_text dev else flat_text baser

unfoldable pub no_place_text : ℕ → ℕ → List ℕ
no_place_text baser dev = enclosed (codes "device ") dev (codes " has no place in the device table") ++ level_text baser dev

abbrev pub device_range_text : Plain → ℕ → ℕ → List ℕ
device_range_text u its dev =
    if is_device_id u.layout.shape.dev_bits dev then no_place_text (register_at u its 0x100) dev
    else device_bits_text dev u.layout.shape.dev_bits

abbrev pub bits_text : Command → List ℕ
bits_text (command.Mapd dev bits itt valid) = enclosed [] bits (codes " EventID bits: ")
bits_text _ = []

unfoldable pub size_range_text : Command → List ℕ
size_range_text c = bits_text c ++ codes "a device has at most 16 (sections 5.3 and 12.19.16)"

abbrev pub last_text : ℕ → List ℕ
last_text last =
    if last == 0 then codes "the only processor is 0 (section 5.3)" else enclosed (codes "there are processors 0 to ") last (codes " (section 5.3)")

unfoldable pub targets_text : ℕ → ℕ → List ℕ
targets_text vcpus named = enclosed [] named (codes ": ") ++ last_text (vcpus - 1)

abbrev pub target_range_text : Plain → Command → List ℕ
target_range_text u c = targets_text u.layout.shape.vcpus (target_named u.layout.shape.vcpus c)

-- ---- CollectionRange

abbrev pub collection_text : Option Icid → List ℕ
collection_text None = []
collection_text (Some icid) = enclosed (codes "collection ") icid.0 (codes " has no place: ")

abbrev pub places_text : Option Translator → List ℕ
places_text None = []
places_text (Some t) = numbered (codes " is for 0 to ") (collection_places t.regs - 1)

unfoldable pub collection_range_text : Plain → ℕ → Option Icid → List ℕ
collection_range_text u its named =
    collection_text named ++ codes "the table of GITS_BASER1" ++ places_text (slice_get u.translators its) ++ codes " (sections 5.2.5 and 12.19.1)"

-- ---- NoDevice, EventRange, IntidRange and NoEvent

unfoldable pub no_device_text : Book → ℕ → DeviceId → List ℕ
no_device_text b its dev =
    enclosed (codes "device ") dev.0 (codes " isn't mapped") ++ since_line (changer b its (key.Device dev)) ++ codes "; MAPD maps it (section 5.2.3)"

-- the greatest number of so many bits, which are fewer than 64
abbrev pub greatest : ℕ → ℕ
greatest bits = if nat_lt bits 64 then 2 ^ bits - 1 else 0

unfoldable pub events_text : Book → ℕ → DeviceId → ℕ → List ℕ
events_text b its dev bits =
    numbered (codes ": device ") dev.0 ++ enclosed (codes " has ") bits (codes " EventID bits") ++ by_line (changer b its (key.Device dev))
    ++ numbered (codes ", so its events are 0 to ") (greatest bits)

abbrev pub events_if : Book → ℕ → DeviceId → Option Device → List ℕ
events_if b its dev None = []
events_if b its dev (Some d) = events_text b its dev d.bits

abbrev pub events_of : Book → Plain → ℕ → DeviceId → EventId → List ℕ
events_of b u its dev ev = events_if b its dev (pair_at u its dev ev).device

unfoldable pub event_range_text : Book → Plain → ℕ → DeviceId → EventId → List ℕ
event_range_text b u its dev ev =
    enclosed (codes "event ") ev.0 (codes " is out of range") ++ events_of b u its dev ev ++ codes " (section 5.2.4)"

abbrev pub intid_text : Command → List ℕ
intid_text (command.Mapti dev ev intid icid) = enclosed (codes "INTID ") intid.0 (codes ": ")
intid_text (command.Mapi dev ev icid) = enclosed (codes "INTID ") ev.0 (codes ": ")
intid_text _ = []

unfoldable pub intid_range_text : ℕ → Command → List ℕ
intid_range_text bits c = intid_text c ++ enclosed (codes "LPIs are 8192 to ") (greatest bits) (codes " (section 2.2)")

unfoldable pub no_event_text : Book → ℕ → DeviceId → EventId → List ℕ
no_event_text b its dev ev =
    numbered (codes "event ") ev.0 ++ enclosed (codes " of device ") dev.0 (codes " isn't mapped") ++ since_line (changer b its (key.Event dev ev))
    ++ codes "; MAPTI or MAPI maps it (section 5.2.4)"

-- ---- NoCollection

-- that of the event, where this has one that isn't mapped, or the one that the command names
abbrev pub missing_of : Option Icid → Option Event → Option Vcpu → Option Icid
missing_of named None target = named
missing_of named (Some e) None = Some e.icid
missing_of named (Some e) (Some v) = named

abbrev pub missing_in : Option Icid → PairState → Option Icid
missing_in named p = missing_of named p.event p.target

unfoldable pub missing_text : Book → ℕ → Icid → List ℕ
missing_text b its icid = enclosed (codes "collection ") icid.0 (codes " isn't mapped") ++ since_line (changer b its (key.Collection icid))

abbrev pub missing_if : Book → ℕ → Option Icid → List ℕ
missing_if b its None = codes "the collection isn't mapped"
missing_if b its (Some icid) = missing_text b its icid

unfoldable pub no_collection_text : Book → ℕ → Option Icid → List ℕ
no_collection_text b its missing = missing_if b its missing ++ codes "; MAPC maps it (section 5.2.5)"

abbrev pub no_collection_of : Book → Plain → ℕ → Command → List ℕ
no_collection_of b u its c =
    no_collection_text b its (missing_in (collection_named c) (pair_at u its (device_named c) (event_named c)))

-- ---- LpisOff

-- the processors that a command needs: of MOVALL both, of another that of the event, and of MOVI that of the collection too
abbrev pub vcpu_of : ℕ → Option Vcpu
vcpu_of number = if nat_lt number 512 then Some (record { 0 = number }) else None

abbrev pub first_target : Plain → ℕ → Command → Option Vcpu
first_target u its (command.Movall from to) = vcpu_of from
first_target u its c = (pair_at u its (device_named c) (event_named c)).target

abbrev pub second_target : Plain → ℕ → Command → Option Vcpu
second_target u its (command.Movall from to) = vcpu_of to
second_target u its (command.Movi dev ev icid) = collection_in (maps_at u its) icid
second_target u its _ = None

abbrev pub is_off_by : Option Bases → Bool
is_off_by None = false
is_off_by (Some b) = not b.on

-- LPIs are off at it, if it is one
abbrev pub is_off : Plain → Option Vcpu → Bool
is_off u None = false
is_off u (Some v) = is_off_by (bases_at u v.0)

abbrev pub off_text : Option Vcpu → List ℕ
off_text None = codes "LPIs are off at a processor that the command needs (section 12.11)"
off_text (Some v) = enclosed (codes "LPIs are off at processor ") v.0 (codes ": EnableLPIs of GICR_CTLR is 0 (section 12.11)")

-- the first of both where they are off
abbrev pub off_at : Plain → Option Vcpu → Option Vcpu → Option Vcpu
off_at u first second = if is_off u first then first else (if is_off u second then second else None)

abbrev pub lpis_off_text : Plain → ℕ → Command → List ℕ
lpis_off_text u its c = off_text (off_at u (first_target u its c) (second_target u its c))

-- ---- by the reason, on the machine after the step

abbrev pub by_reason : Book → Plain → ℕ → Command → Reason → List ℕ
by_reason b u its c reason.UnknownCommand = codes "its opcode is none of a translator's twelve (section 5.3)"
by_reason b u its c reason.DeviceRange = device_range_text u its (device_named c).0
by_reason b u its c reason.SizeRange = size_range_text c
by_reason b u its c reason.TargetRange = target_range_text u c
by_reason b u its c reason.CollectionRange = collection_range_text u its (collection_named c)
by_reason b u its c reason.NoDevice = no_device_text b its (device_named c)
by_reason b u its c reason.EventRange = event_range_text b u its (device_named c) (event_named c)
by_reason b u its c reason.IntidRange = intid_range_text u.layout.shape.lpi_bits c
by_reason b u its c reason.NoEvent = no_event_text b its (device_named c) (event_named c)
by_reason b u its c reason.NoCollection = no_collection_of b u its c
by_reason b u its c reason.LpisOff = lpis_off_text u its c

abbrev pub reason_text : Book → Plain → Taken → Reason → List ℕ
reason_text b u t = by_reason b u t.its t.command
