-- What a device's write by address is answered.
use Rattle.std.specs.Prelude.{◌≡◌, length, Result, Ok, Err}
use Rattle.its_types.specs.declared.machine.Part.TheVariants as part
use Rattle.its_types.specs.declared.machine.Placed.{Placed}
use Rattle.its_plain.specs.declared.call.Call.{Call}
use Rattle.its_plain.specs.declared.call.Reply.{Reply}
use Rattle.its_plain.specs.declared.call.Reply.TheVariants as reply
use Rattle.its_plain.specs.declared.call.Route.{Route}
use Rattle.its_plain.specs.declared.call.Route.TheVariants as route
use Rattle.its_steps.specs.World.{View}
use Rattle.its_steps.specs.declared.change.ShardChange.TheVariants.{Keep}
use Rattle.its_turns.specs.Calls.{Stays, IsPlaced, Leaves, GotOnly}
use Rattle.its_turns.specs.declared.attempts.NotMade.{NotMade}
use Rattle.its_turns.specs.declared.attempts.NotMade.TheVariants.{Spent, NoMemory}
use Rattle.device_port.specs.Messages.{message}
use Rattle.device_port.specs.Signals.{SignalAsks, Sent}
use Rattle.device_port.specs.declared.told.Dma.{Dma}
use Rattle.device_port.specs.declared.told.Dma.TheVariants as dma

-- as the history has it
abbrev pub reply_of : Dma → Reply
reply_of (dma.Signal s) = reply.Signal s
reply_of dma.NoRequester = reply.NoRequester
reply_of dma.Ok = reply.Ok
reply_of dma.Outside = reply.Outside

-- Which answers a route has, and what the call left. A message leaves what a signal does
abbrev pub Answers : Route → Dma → View → Type 0
Answers (route.Signal its dev ev) (dma.Signal s) w = Sent (message its dev ev) s w
Answers route.Poke dma.Ok w = Leaves Keep w
Answers route.Poke dma.Outside w = Leaves Keep w
Answers route.NoRequester dma.NoRequester w = Leaves Keep w
Answers route.Frame dma.Outside w = Leaves Keep w
Answers to answer w = ⊥

-- Which turns were got, until it was made or given up: a message's are a signal's, a write's are memory's, and what is neither needs none
abbrev pub Got : View → Route → View → Type 0
Got v (route.Signal its dev ev) w = SignalAsks v (message its dev ev) w
Got v route.Poke w = GotOnly (λ q. q ≡ part.Mem) v w
Got v to w = w.tries ≡ v.tries

abbrev pub Dmas : View → Call → Route → View → Result (Placed Dma) NotMade → Type 0
Dmas v c to w (Ok p) = IsPlaced v c (reply_of p.reply) p.place w × Answers to p.reply w × Got v to w
Dmas v c to w (Err Spent) = Stays v w × (length w.seen ≡ v.setup.limits.place_last) × Got v to w
Dmas v c to w (Err NoMemory) = (to ≡ route.Poke) × Stays v w × Got v to w
