-- What the machine says of what a call concerns, before the call and after it.
use Rattle.std.specs.Prelude.{ℕ, Bool, ◌-◌, ◌%◌, ◌^◌, ◌==◌, ◌||◌, nat_lt, min, if◌then◌else◌, length, slice_get, Option, Some, None}
use Rattle.std.specs.FinMap.{entries}
use Rattle.call_facts.specs.Idle.{idle_cause}
use Rattle.call_facts.specs.Pairs.{pair_state, spot}
use Rattle.call_facts.specs.declared.lpis.LpiState.{LpiState}
use Rattle.call_facts.specs.declared.pairs.PairState.{PairState}
use Rattle.gits_regs.specs.Registers.{Registers, read_reg}
use Rattle.its_command.specs.declared.command.Command.{Command}
use Rattle.its_command.specs.declared.command.Command.TheVariants as command
use Rattle.its_plain.specs.Answer.{gicr_read}
use Rattle.its_plain.specs.Plain.{Plain, Translator, maps_of, regs_of, pending_of}
use Rattle.its_plain.specs.declared.call.Call.{Call}
use Rattle.its_plain.specs.declared.call.Call.TheVariants as call
use Rattle.its_plain.specs.declared.call.Reply.{Reply}
use Rattle.its_plain.specs.declared.call.Reply.TheVariants as reply
use Rattle.its_plain.specs.declared.call.Route.{Route}
use Rattle.its_plain.specs.declared.call.Route.TheVariants as route
use Rattle.its_types.specs.Maps.{Maps, device_of, collection_of, events_at}
use Rattle.its_types.specs.declared.ids.DeviceId.{DeviceId}
use Rattle.its_types.specs.declared.ids.EventId.{EventId}
use Rattle.its_types.specs.declared.ids.Icid.{Icid}
use Rattle.its_types.specs.declared.ids.Target.{Target}
use Rattle.its_types.specs.declared.ids.Vcpu.{Vcpu}
use Rattle.its_types.specs.declared.translation.Device.{Device}
use Rattle.its_explain.specs.Views.{lpi_at, waiting_for, bases_at, rule_at}
use Rattle.its_explain.specs.Watched.{maps_at}
use Rattle.its_explain.specs.declared.facts.Counts.{Counts}
use Rattle.its_explain.specs.declared.facts.EventFact.{EventFact}
use Rattle.its_explain.specs.declared.facts.Fact.{Fact}
use Rattle.its_explain.specs.declared.facts.Fact.TheVariants as fact
use Rattle.its_explain.specs.declared.facts.Taken.{Taken}
use Rattle.its_explain.specs.declared.looks.EventLook.{EventLook}
use Rattle.its_explain.specs.declared.looks.Look.{Look}
use Rattle.its_explain.specs.declared.looks.Look.TheVariants as look
use Rattle.its_explain.specs.declared.looks.LpiRegisterLook.{LpiRegisterLook}
use Rattle.its_explain.specs.declared.looks.RegisterLook.{RegisterLook}

-- ---- a message, or a command that names an event

-- how an LPI stands where it goes, if it goes anywhere
abbrev pub lpi_of : Plain → Option Target → Option LpiState
lpi_of u None = None
lpi_of u (Some t) = lpi_at u t.vcpu.0 t.intid.0

abbrev pub pair_at : Plain → ℕ → DeviceId → EventId → PairState
pair_at u its dev ev = pair_state (maps_of u its) dev.0 ev.0

-- before the call
abbrev pub event_look : Plain → ℕ → DeviceId → EventId → EventLook
event_look u its dev ev =
    record { its = its; dev = dev; ev = ev; pair = pair_at u its dev ev; lpi = lpi_of u (spot (pair_at u its dev ev)) }

abbrev pub event_asked : Plain → ℕ → DeviceId → EventId → Look
event_asked u its dev ev = look.Event (event_look u its dev ev)

-- where it goes, and where it goes nowhere any more, where it went
abbrev pub last_spot : Option Target → Option Target → Option Target
last_spot (Some after) before = Some after
last_spot None before = before

-- what the machine said before, and what it says after the call
abbrev pub event_fact : Plain → EventLook → EventFact
event_fact u l =
    record {
      its = l.its;
      dev = l.dev;
      ev = l.ev;
      before = l.pair;
      after = pair_at u l.its l.dev l.ev;
      was = l.lpi;
      is = lpi_of u (last_spot (spot (pair_at u l.its l.dev l.ev)) (spot l.pair));
    }

-- ---- devices and collections, of a translator that there is

abbrev pub device_in : Option Maps → DeviceId → Option Device
device_in None dev = None
device_in (Some m) dev = device_of m dev.0

abbrev pub collection_in : Option Maps → Icid → Option Vcpu
collection_in None icid = None
collection_in (Some m) icid = collection_of m icid.0

-- a count, as far as a number of 64 bits tells it
abbrev pub as_many : ℕ → ℕ
as_many n = min n (2 ^ 64 - 1)

abbrev pub event_count : Maps → DeviceId → ℕ
event_count m dev = as_many (length (events_at m dev.0))

abbrev pub events_in : Option Maps → DeviceId → ℕ
events_in None dev = 0
events_in (Some m) dev = event_count m dev

-- how much is mapped
abbrev pub counts : Maps → Counts
counts m =
    record {
      devices = length (entries m.devices);
      events = length (entries m.events);
      collections = as_many (length (entries m.collections));
    }

abbrev pub counts_in : Option Maps → Counts
counts_in None = record { devices = 0; events = 0; collections = 0 }
counts_in (Some m) = counts m

-- ---- what is pending

-- how many LPIs at a virtual processor that there is
abbrev pub pending_count : Plain → ℕ → ℕ
pending_count u vcpu = if nat_lt vcpu (length u.redistributors) then length (pending_of u vcpu) else 0

abbrev pub pending_where : Plain → Option Vcpu → ℕ
pending_where u None = 0
pending_where u (Some vcpu) = pending_count u vcpu.0

-- ---- registers

-- GITS_CTLR, GITS_IIDR and GITS_PIDR2 have 32 bits (IHI 0069, section 12.19)
abbrev pub is_word : ℕ → Bool
is_word off = off == 0x0 || off == 0x4 || off == 0xFFE8

-- what the 64-bit register reads that has an offset, or the 32-bit one
unfoldable pub whole_register : Registers → ℕ → ℕ
whole_register r off = if is_word off then read_reg r off 4 else read_reg r (off - off % 8) 8

abbrev pub register_of : Option Translator → ℕ → ℕ
register_of None off = 0
register_of (Some t) off = whole_register t.regs off

abbrev pub register_at : Plain → ℕ → ℕ → ℕ
register_at u its off = register_of (slice_get u.translators its) off

-- what a register read by its reply
abbrev pub value_in : Reply → ℕ
value_in (reply.Value value) = value
value_in _ = 0

-- the same of the LPI registers of a virtual processor: GICR_CTLR has 32 bits
unfoldable pub lpi_register_at : Plain → ℕ → ℕ → ℕ
lpi_register_at u vcpu off = if nat_lt off 4 then gicr_read u vcpu 0 4 else gicr_read u vcpu (off - off % 8) 8

-- ---- before each call

abbrev pub device_look : Plain → ℕ → DeviceId → Look
device_look u its dev = look.Device its dev (device_in (maps_at u its) dev) (events_in (maps_at u its) dev)

abbrev pub collection_look : Plain → ℕ → Icid → Look
collection_look u its icid =
    look.Collection its icid (collection_in (maps_at u its) icid) (pending_where u (collection_in (maps_at u its) icid))

-- what a command concerns that a translator takes
abbrev pub command_look : Plain → ℕ → Command → Look
command_look u its (command.Movi dev ev icid) = event_asked u its dev ev
command_look u its (command.Int dev ev) = event_asked u its dev ev
command_look u its (command.Clear dev ev) = event_asked u its dev ev
command_look u its (command.Sync target) = look.Nothing
command_look u its (command.Mapd dev bits itt valid) = device_look u its dev
command_look u its (command.Mapc icid target valid) = collection_look u its icid
command_look u its (command.Mapti dev ev intid icid) = event_asked u its dev ev
command_look u its (command.Mapi dev ev icid) = event_asked u its dev ev
command_look u its (command.Inv dev ev) = event_asked u its dev ev
command_look u its (command.Invall icid) = look.Nothing
command_look u its (command.Movall from to) = look.Known (fact.Moved (pending_count u from))
command_look u its (command.Discard dev ev) = event_asked u its dev ev
command_look u its (command.Unknown op) = look.Nothing

-- a step that takes this command, or none
abbrev pub step_look : Plain → ℕ → Option Taken → Look
step_look u its None = look.Known (fact.Idle (idle_cause (regs_of u its)) (register_at u its 0x90))
step_look u its (Some t) = command_look u its t.command

abbrev pub register_look : Plain → ℕ → ℕ → ℕ → ℕ → Look
register_look u its off size value =
    look.Register (record {
      its = its;
      off = off;
      fact = record {
        rule = rule_at u its off size value;
        before = register_at u its off;
        after = register_at u its off;
        had = counts_in (maps_at u its);
        has = counts_in (maps_at u its);
      };
    })

abbrev pub lpi_register_look : Plain → Vcpu → ℕ → Look
lpi_register_look u vcpu off =
    look.LpiRegister (record { vcpu = vcpu; off = off; bases = bases_at u vcpu.0; had = pending_count u vcpu.0 })

abbrev pub waiting_look : Plain → Vcpu → Look
waiting_look u vcpu = look.Known (fact.Waiting (waiting_for u vcpu.0))

abbrev pub route_look : Plain → Route → Look
route_look u (route.Signal its dev ev) = event_asked u its dev ev
route_look u route.Poke = look.Nothing
route_look u route.NoRequester = look.Nothing
route_look u route.Frame = look.Nothing

-- what a call concerns, where a step takes this command, if it takes one
abbrev pub look_of : Plain → Option Taken → Call → Look
look_of u t (call.Signal its dev ev) = event_asked u its dev ev
look_of u t (call.Take vcpu) = waiting_look u vcpu
look_of u t (call.Show vcpu) = waiting_look u vcpu
look_of u t (call.Best vcpu mask) = waiting_look u vcpu
look_of u t (call.Claim vcpu intid) = look.Known (fact.Claimed (lpi_at u vcpu.0 intid.0))
look_of u t (call.Poke addr bytes) = look.Nothing
look_of u t (call.Peek addr count) = look.Nothing
look_of u t (call.ReadReg its off size) = look.Known (fact.Read (register_at u its off))
look_of u t (call.WriteReg its off size value) = register_look u its off size value
look_of u t (call.ReadGicr vcpu off size) = look.Known (fact.Read (lpi_register_at u vcpu.0 off))
look_of u t (call.WriteGicr vcpu off size value) = lpi_register_look u vcpu off
look_of u t (call.Step its) = step_look u its t
look_of u t call.Save = look.Nothing
look_of u t call.Copy = look.Nothing
look_of u t (call.Dma req addr bytes to) = route_look u to

-- ---- after it

abbrev pub device_fact : Plain → ℕ → DeviceId → Option Device → ℕ → Fact
device_fact v its dev before events =
    fact.Device (record { its = its; dev = dev; before = before; after = device_in (maps_at v its) dev; events = events })

abbrev pub collection_fact : Plain → ℕ → Icid → Option Vcpu → ℕ → Fact
collection_fact v its icid before had =
    fact.Collection (record {
      its = its;
      icid = icid;
      before = before;
      after = collection_in (maps_at v its) icid;
      had = had;
      has = pending_where v before;
    })

abbrev pub register_fact : Plain → RegisterLook → Fact
register_fact v l = fact.Written (record l.fact { after = register_at v l.its l.off; has = counts_in (maps_at v l.its) })

abbrev pub lpi_register_fact : Plain → LpiRegisterLook → Fact
lpi_register_fact v l =
    fact.LpiWritten (record {
      before = l.bases;
      after = bases_at v l.vcpu.0;
      value = lpi_register_at v l.vcpu.0 l.off;
      had = l.had;
      has = pending_count v l.vcpu.0;
    })

-- the fact of a call that was made after this look, in the state after it
abbrev pub fact_of : Plain → Look → Fact
fact_of v look.Nothing = fact.None
fact_of v (look.Known f) = f
fact_of v (look.Event l) = fact.Event (event_fact v l)
fact_of v (look.Device its dev before events) = device_fact v its dev before events
fact_of v (look.Collection its icid before had) = collection_fact v its icid before had
fact_of v (look.Register l) = register_fact v l
fact_of v (look.LpiRegister l) = lpi_register_fact v l
