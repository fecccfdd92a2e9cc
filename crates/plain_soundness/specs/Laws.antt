-- What is claimed of the plain machine: every call leaves a sound state sound, and a description makes a sound state.
use Rattle.std.specs.Prelude.{◌≡◌, ℕ, ◌%◌, ◌^◌, ◌<◌, ◌≤◌, true, ◌&&◌, List, Ok, IfOk}
use Rattle.its_types.specs.Lpis.{is_pending}
use Rattle.its_types.specs.declared.ids.Addr.{Addr}
use Rattle.its_types.specs.declared.ids.DeviceId.{DeviceId}
use Rattle.its_types.specs.declared.ids.EventId.{EventId}
use Rattle.its_types.specs.declared.ids.Intid.{Intid}
use Rattle.its_types.specs.declared.ids.Vcpu.{Vcpu}
use Rattle.its_command.specs.Commands.{IsWithinBits}
use Rattle.its_command.specs.declared.command.Command.{Command}
use Rattle.its_plain.specs.Plain.{Plain, regs_of, pending_of}
use Rattle.its_plain.specs.Sound.{IsSound}
use Rattle.its_plain.specs.Answer.{answer}
use Rattle.its_plain.specs.Described.{is_led_to, without_stale}
use Rattle.its_plain.specs.History.{after}
use Rattle.its_plain.specs.declared.call.Entry.{Entry}
use Rattle.its_plain.specs.Saved.{moved}
use Rattle.its_plain.specs.Machine.{made}
use Rattle.its_plain.specs.Machine.{IsDescription}
use Rattle.its_plain.specs.declared.desc.Desc.{Desc}
use Rattle.its_plain.specs.Commands.{ran, mapd, unmapd, mapc, unmapc, mapti, movi, discard, int, clear, inv, invall, movall}
use Rattle.its_plain.specs.declared.call.Call.{Call}
use Rattle.its_plain.specs.declared.call.Route.{Route}
use Rattle.its_plain.specs.declared.call.Call.TheVariants as call

-- the state that a call leaves is sound, if the one before it was
abbrev pub KeepsSound : Plain → Call → Type 0
KeepsSound u c = IsSound u → IsSound (answer u c).1

-- ---- calls by kinds

abbrev pub ShowKeepsSound : Type 0
ShowKeepsSound = (u : Plain) (vcpu : Vcpu) → KeepsSound u (call.Show vcpu)

abbrev pub BestKeepsSound : Type 0
BestKeepsSound = (u : Plain) (vcpu : Vcpu) (mask : ℕ) → KeepsSound u (call.Best vcpu mask)

abbrev pub PeekKeepsSound : Type 0
PeekKeepsSound = (u : Plain) (addr : Addr) (count : ℕ) → KeepsSound u (call.Peek addr count)

abbrev pub RegisterReadKeepsSound : Type 0
RegisterReadKeepsSound = (u : Plain) (its off size : ℕ) → KeepsSound u (call.ReadReg its off size)

abbrev pub TakeKeepsSound : Type 0
TakeKeepsSound = (u : Plain) (vcpu : Vcpu) → KeepsSound u (call.Take vcpu)

abbrev pub ClaimKeepsSound : Type 0
ClaimKeepsSound = (u : Plain) (vcpu : Vcpu) (intid : Intid) → KeepsSound u (call.Claim vcpu intid)

abbrev pub PokeKeepsSound : Type 0
PokeKeepsSound = (u : Plain) (addr : Addr) (bytes : List ℕ) → KeepsSound u (call.Poke addr bytes)

abbrev pub RegisterWriteKeepsSound : Type 0
RegisterWriteKeepsSound = (u : Plain) (its off size value : ℕ) → KeepsSound u (call.WriteReg its off size value)

abbrev pub GicrReadKeepsSound : Type 0
GicrReadKeepsSound = (u : Plain) (vcpu : Vcpu) (off size : ℕ) → KeepsSound u (call.ReadGicr vcpu off size)

abbrev pub GicrWriteKeepsSound : Type 0
GicrWriteKeepsSound = (u : Plain) (vcpu : Vcpu) (off size value : ℕ) → KeepsSound u (call.WriteGicr vcpu off size value)

abbrev pub SignalKeepsSound : Type 0
SignalKeepsSound = (u : Plain) (its : ℕ) (dev : DeviceId) (ev : EventId) → KeepsSound u (call.Signal its dev ev)

abbrev pub SaveKeepsSound : Type 0
SaveKeepsSound = (u : Plain) → KeepsSound u call.Save

abbrev pub CopyKeepsSound : Type 0
CopyKeepsSound = (u : Plain) → KeepsSound u call.Copy

-- whatever the write is by the description
abbrev pub DmaKeepsSound : Type 0
DmaKeepsSound = (u : Plain) (req : ℕ) (addr : Addr) (bytes : List ℕ) (to : Route) → KeepsSound u (call.Dma req addr bytes to)

-- ---- commands: each is refused, or leaves a sound state

-- its fields within their bits
abbrev pub MapdKeepsSound : Type 0
MapdKeepsSound = (u : Plain) (i dev bits itt : ℕ) → 1 ≤ bits → itt % 256 ≡ 0 → itt < 2 ^ 52 → IsSound u → IfOk (mapd u i dev bits itt) IsSound

abbrev pub UnmapdKeepsSound : Type 0
UnmapdKeepsSound = (u : Plain) (i dev : ℕ) → IsSound u → IfOk (unmapd u i dev) IsSound

-- a translator that is not enabled takes no command, and may have no collection table
abbrev pub MapcKeepsSound : Type 0
MapcKeepsSound = (u : Plain) (i icid target : ℕ) → (regs_of u i).enabled ≡ true → IsSound u → IfOk (mapc u i icid target) IsSound

abbrev pub UnmapcKeepsSound : Type 0
UnmapcKeepsSound = (u : Plain) (i icid : ℕ) → IsSound u → IsSound (unmapc u i icid)

-- MAPI too, whose INTID is its EventID
abbrev pub MaptiKeepsSound : Type 0
MaptiKeepsSound = (u : Plain) (i dev ev intid icid : ℕ) → IsSound u → IfOk (mapti u i dev ev intid icid) IsSound

abbrev pub MoviKeepsSound : Type 0
MoviKeepsSound = (u : Plain) (i dev ev icid : ℕ) → IsSound u → IfOk (movi u i dev ev icid) IsSound

abbrev pub DiscardKeepsSound : Type 0
DiscardKeepsSound = (u : Plain) (i dev ev : ℕ) → IsSound u → IfOk (discard u i dev ev) IsSound

abbrev pub IntKeepsSound : Type 0
IntKeepsSound = (u : Plain) (i dev ev : ℕ) → IsSound u → IfOk (int u i dev ev) IsSound

abbrev pub ClearKeepsSound : Type 0
ClearKeepsSound = (u : Plain) (i dev ev : ℕ) → IsSound u → IfOk (clear u i dev ev) IsSound

abbrev pub InvKeepsSound : Type 0
InvKeepsSound = (u : Plain) (i dev ev : ℕ) → IsSound u → IfOk (inv u i dev ev) IsSound

abbrev pub InvallKeepsSound : Type 0
InvallKeepsSound = (u : Plain) (i icid : ℕ) → IsSound u → IfOk (invall u i icid) IsSound

abbrev pub MovallKeepsSound : Type 0
MovallKeepsSound = (u : Plain) (from to : ℕ) → IsSound u → IfOk (movall u from to) IsSound

-- every command of an enabled translator
abbrev pub CommandsKeepSound : Type 0
CommandsKeepSound = (u : Plain) (i : ℕ) (c : Command) → IsWithinBits c → (regs_of u i).enabled ≡ true → IsSound u → IfOk (ran u i c) IsSound

-- ---- every call

abbrev pub StepKeepsSound : Type 0
StepKeepsSound = (u : Plain) (its : ℕ) → KeepsSound u (call.Step its)

abbrev pub CallsKeepSound : Type 0
CallsKeepSound = (u : Plain) (c : Call) → KeepsSound u c

-- one after another
abbrev pub HistoriesKeepSound : Type 0
HistoriesKeepSound = (u : Plain) (h : List Entry) → IsSound u → IsSound (after u h)

-- the state that a migration goes on from, whether or not the state before it can be saved
abbrev pub MigrationsKeepSound : Type 0
MigrationsKeepSound = (u : Plain) → IsSound u → IsSound (moved u)

-- ---- the first state

abbrev pub MachinesStartSound : Type 0
MachinesStartSound = (d : Desc) (u : Plain) → IsDescription d → made d ≡ Ok u → IsSound u

-- where it is restored from what KVM saved, just the bits go that no event leads to
abbrev pub StaleBitsGo : Type 0
StaleBitsGo =
    (u : Plain) (vcpu intid : ℕ)
    → is_pending intid (pending_of (without_stale u) vcpu) ≡ is_led_to u.translators vcpu intid && is_pending intid (pending_of u vcpu)

-- and it stays sound
abbrev pub StaleBitsGoSound : Type 0
StaleBitsGoSound = (u : Plain) → IsSound u → IsSound (without_stale u)
