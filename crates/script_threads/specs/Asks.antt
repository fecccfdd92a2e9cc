-- What a thread may ask, and what it is answered.
use Rattle.std.specs.Prelude.{◌≡◌, ◌<◌, ℕ, true, length, Result, Ok, Err}
use Rattle.std.specs.List.{AllByRecursion}
use Rattle.gicr_regs.specs.Registers.{asked_by}
use Rattle.its_types.specs.declared.machine.Placed.{Placed}
use Rattle.its_types.specs.declared.translation.Bases.{Bases}
use Rattle.its_plain.specs.Doorbells.{route_of}
use Rattle.its_plain.specs.History.{after}
use Rattle.its_plain.specs.Plain.{Plain}
use Rattle.its_plain.specs.Runs.{Thread, Phase, Leg}
use Rattle.its_plain.specs.declared.call.Call.{Call}
use Rattle.its_plain.specs.declared.call.Call.TheVariants as call
use Rattle.its_plain.specs.declared.call.Reply.{Reply}
use Rattle.its_plain.specs.declared.call.Route.{Route}
use Rattle.its_plain.specs.declared.call.Route.TheVariants as route
use Rattle.its_steps.specs.Parts.{translator_count, vcpu_count}
use Rattle.its_steps.specs.World.{View}
use Rattle.its_turns.specs.Calls.{IsPlaced, Stays}
use Rattle.its_turns.specs.Machines.{setup}
use Rattle.its_turns.specs.declared.attempts.NotMade.{NotMade}
use Rattle.its_turns.specs.declared.attempts.NotMade.TheVariants as not_made
use Rattle.its_turns.specs.declared.attempts.Spent.{Spent as AllUsed}
use Rattle.its_turns.specs.declared.machine.Machine.{Machine}
use Rattle.cmd_engine.specs.Telling.{WantsMemory}
use Rattle.lpi_pending.specs.Rooms.{is_enable}
use Rattle.device_port.specs.Routes.{AreDevices}
use Rattle.script_threads.specs.declared.stop.Stop.{Stop}
use Rattle.script_threads.specs.declared.stop.Stop.TheVariants.{Spent, NoMemory}

-- The call is one that this machine's ports may be called with: a translator's number or a virtual processor's is one of the
-- machine's, and a device's write is what the machine's description says
abbrev pub MayAsk : Machine → Call → Type 0
MayAsk m (call.Signal its dev ev) = its < translator_count (setup m)
MayAsk m (call.Take vcpu) = vcpu.0 < vcpu_count (setup m)
MayAsk m (call.Show vcpu) = vcpu.0 < vcpu_count (setup m)
MayAsk m (call.Poke addr bytes) = Unit {0}
MayAsk m (call.Peek addr count) = Unit {0}
MayAsk m (call.ReadReg its off size) = its < translator_count (setup m)
MayAsk m (call.WriteReg its off size value) = its < translator_count (setup m)
MayAsk m (call.Step its) = its < translator_count (setup m)
MayAsk m (call.ReadGicr vcpu off size) = vcpu.0 < vcpu_count (setup m)
MayAsk m (call.WriteGicr vcpu off size value) = vcpu.0 < vcpu_count (setup m)
MayAsk m call.Save = Unit {0}
MayAsk m (call.Best vcpu mask) = vcpu.0 < vcpu_count (setup m)
MayAsk m (call.Claim vcpu intid) = vcpu.0 < vcpu_count (setup m)
MayAsk m call.Copy = Unit {0}
MayAsk m (call.Dma req addr bytes to) = AreDevices m.desc.requesters × (to ≡ route_of m.desc req addr.0 bytes)

abbrev pub MayAskAll : Machine → Thread → Type 0
MayAskAll m calls = AllByRecursion (MayAsk m) calls

abbrev pub MayRun : Machine → Phase → Type 0
MayRun m threads = AllByRecursion (MayAskAll m) threads

abbrev pub MayRunLeg : Machine → Leg → Type 0
MayRunLeg m phases = AllByRecursion (MayRun m) phases

-- a device's write takes memory where it is one of memory
abbrev pub WritesMemory : Route → Type 0
WritesMemory route.Poke = Unit {0}
WritesMemory other = ⊥

-- a write of the LPI registers that asks to turn LPIs on, where they are off
abbrev pub MayTurnOn : ℕ → ℕ → ℕ → Type 0
MayTurnOn off size value = (b : Bases) × (is_enable (asked_by b off size value) ≡ true)

-- the call takes memory before it is made, and may find none
abbrev pub TakesMemory : Call → Type 0
TakesMemory (call.Step its) = Unit {0}
TakesMemory call.Save = Unit {0}
TakesMemory (call.Poke addr bytes) = Unit {0}
TakesMemory (call.Dma req addr bytes to) = WritesMemory to
TakesMemory (call.WriteGicr vcpu off size value) = MayTurnOn off size value
TakesMemory other = ⊥

-- in this state the call takes memory: a step only where its command isn't refused and adds a device, a collection or an event
abbrev pub TakesMemoryIn : Plain → Call → Type 0
TakesMemoryIn u (call.Step its) = WantsMemory u its
TakesMemoryIn u call.Save = Unit {0}
TakesMemoryIn u (call.Poke addr bytes) = Unit {0}
TakesMemoryIn u (call.Dma req addr bytes to) = WritesMemory to
TakesMemoryIn u (call.WriteGicr vcpu off size value) = MayTurnOn off size value
TakesMemoryIn u other = ⊥

-- The call was made, or nothing was: where all places are used, or where it takes memory in the state that the pass has seen
abbrev pub Answers : View → Call → View → Result (Placed Reply) Stop → Type 0
Answers v c w (Ok p) = IsPlaced v c p.reply p.place w
Answers v c w (Err Spent) = Stays v w × (length w.seen ≡ v.setup.limits.place_last)
Answers v c w (Err NoMemory) = Stays v w × TakesMemoryIn (after v.setup.start w.seen) c

-- ---- the outcome of a port, as that of a call

-- where it was made, the reply is told as R says; else why it was not
abbrev pub IsTold : {T E : Type 0} → (E → Stop) → (T → Reply → Type 0) → Result (Placed T) E → Result (Placed Reply) Stop → Type 0
IsTold stop R (Ok made) (Ok told) = (told.place ≡ made.place) × R made.reply told.reply
IsTold stop R (Err why) (Err told) = told ≡ stop why
IsTold stop R made told = ⊥

-- ---- why a port made no call

abbrev pub stop_spent : AllUsed → Stop
stop_spent spent = Spent

abbrev pub stop_of : NotMade → Stop
stop_of not_made.Spent = Spent
stop_of not_made.NoMemory = NoMemory
