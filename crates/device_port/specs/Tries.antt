-- What a device's write by address is answered that waits for nobody.
use Rattle.std.specs.Prelude.{◌≡◌, ◌<◌, ℕ, List, [], ◌∷◌, length, Result, Ok, Err}
use Rattle.its_types.specs.declared.machine.Part.{Part}
use Rattle.its_types.specs.declared.machine.Part.TheVariants as part
use Rattle.its_plain.specs.declared.call.Call.{Call}
use Rattle.its_plain.specs.declared.call.Reply.{Reply}
use Rattle.its_plain.specs.declared.call.Reply.TheVariants as reply
use Rattle.its_plain.specs.declared.call.Signal.{Signal}
use Rattle.its_plain.specs.declared.call.Route.{Route}
use Rattle.its_plain.specs.declared.call.Route.TheVariants as route
use Rattle.its_steps.specs.World.{View}
use Rattle.its_steps.specs.declared.change.ShardChange.TheVariants.{Keep}
use Rattle.its_turns.specs.Calls.{IsPlaced, Leaves, got_all, WasBusy, WasRaced, WasSpent, attempt_of}
use Rattle.its_turns.specs.declared.attempts.Attempt.{Attempt}
use Rattle.its_turns.specs.declared.attempts.Attempt.TheVariants as attempt
use Rattle.its_turns.specs.declared.attempts.Lost.{Lost}
use Rattle.its_turns.specs.declared.attempts.Lost.TheVariants as lost
use Rattle.its_turns.specs.declared.turns.Busy.{Busy}
use Rattle.device_port.specs.Dmas.{reply_of, Answers}
use Rattle.device_port.specs.Messages.{message}
use Rattle.device_port.specs.Signals.{IsOfSignal, SignalGot}
use Rattle.device_port.specs.declared.told.Dma.{Dma}
use Rattle.device_port.specs.declared.told.Dma.TheVariants as dma

-- These turns were got, the last one first: a message's are a signal's, a write's is memory's, and what is neither needs none
abbrev pub GotOnce : View → Route → List Part → View → Type 0
GotOnce v (route.Signal its dev ev) got w = SignalGot v (message its dev ev) got w
GotOnce v route.Poke got w = got ≡ part.Mem ∷ []
GotOnce v to got w = got ≡ []

-- When these were got, the next one was another pass's: a message's as a signal's, a write's is memory's, and what is neither finds none taken
abbrev pub FindsTaken : View → Route → List Part → Busy → View → Type 0
FindsTaken v (route.Signal its dev ev) got b w = SignalGot v (message its dev ev) got w × IsOfSignal v.setup (message its dev ev) b.part
    × (length w.seen < v.setup.limits.place_last)
FindsTaken v route.Poke got b w = (got ≡ []) × (b.part ≡ part.Mem)
FindsTaken v to got b w = ⊥

-- each turn was tried once
abbrev pub DmasOnce : View → Call → Route → View → Attempt Dma → Type 0
DmasOnce v c to w (attempt.Done p) = (got : List Part) × GotOnce v to got w × IsPlaced v c (reply_of p.reply) p.place w × Answers to p.reply w
    × (w.tries ≡ got_all got v.tries)
DmasOnce v c to w (attempt.Busy b) = (got : List Part) × FindsTaken v to got b w × WasBusy v got b w
DmasOnce v c to w (attempt.Raced r) = (got : List Part) × GotOnce v to got w × WasRaced v got r w
DmasOnce v c to w attempt.Spent = (got : List Part) × GotOnce v to got w × WasSpent v got w

-- ---- from what each kind answers

-- a call that needs no part: no turn is tried
abbrev pub TellsOnce : View → Call → Reply → View → Result ℕ Lost → Type 0
TellsOnce v c r w (Ok place) = IsPlaced v c r place w × Leaves Keep w × (w.tries ≡ v.tries)
TellsOnce v c r w (Err lost.Spent) = WasSpent v [] w
TellsOnce v c r w (Err (lost.Raced raced)) = WasRaced v [] raced w

abbrev pub message_tried : Attempt Signal → Attempt Dma
message_tried (attempt.Done p) = attempt.Done (record { place = p.place; reply = dma.Signal p.reply })
message_tried (attempt.Busy b) = attempt.Busy b
message_tried (attempt.Raced r) = attempt.Raced r
message_tried attempt.Spent = attempt.Spent

abbrev pub written : Reply → Dma
written reply.Ok = dma.Ok
written other = dma.Outside

abbrev pub write_tried : Attempt Reply → Attempt Dma
write_tried (attempt.Done p) = attempt.Done (record { place = p.place; reply = written p.reply })
write_tried (attempt.Busy b) = attempt.Busy b
write_tried (attempt.Raced r) = attempt.Raced r
write_tried attempt.Spent = attempt.Spent

abbrev pub nothing_tried : Result ℕ Lost → Dma → Attempt Dma
nothing_tried (Ok place) answer = attempt.Done (record { place = place; reply = answer })
nothing_tried (Err l) answer = attempt_of l
