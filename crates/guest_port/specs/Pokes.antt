-- What a write of guest memory is answered, whoever makes it.
use Rattle.std.specs.Prelude.{◌≡◌, ℕ, List, length, Result, Ok, Err}
use Rattle.its_types.specs.declared.ids.Addr.{Addr}
use Rattle.its_types.specs.declared.machine.Part.TheVariants as part
use Rattle.its_types.specs.declared.machine.Placed.{Placed}
use Rattle.its_plain.specs.declared.call.Call.{Call}
use Rattle.its_plain.specs.declared.call.Call.TheVariants as call
use Rattle.its_plain.specs.declared.call.Reply.{Reply}
use Rattle.its_plain.specs.declared.call.Reply.TheVariants as reply
use Rattle.its_plain.specs.declared.call.Route.TheVariants as route
use Rattle.its_steps.specs.World.{View}
use Rattle.its_steps.specs.declared.change.ShardChange.TheVariants.{Keep}
use Rattle.its_turns.specs.Calls.{Stays, IsPlaced, Leaves, GotOnly}
use Rattle.its_turns.specs.declared.attempts.Attempt.{Attempt}
use Rattle.its_turns.specs.declared.attempts.Attempt.TheVariants as attempt
use Rattle.its_turns.specs.declared.attempts.NotMade.{NotMade}
use Rattle.its_turns.specs.declared.attempts.NotMade.TheVariants.{Spent, NoMemory}
use Rattle.guest_port.specs.declared.writer.Writer.{Writer}
use Rattle.guest_port.specs.declared.writer.Writer.TheVariants.{Guest, Requester}

-- ---- calls

-- the write of these bytes, as a call
abbrev pub write_of : Writer → Addr → List ℕ → Call
write_of Guest addr bytes = call.Poke addr bytes
write_of (Requester req) addr bytes = call.Dma req addr bytes route.Poke

-- a write is answered in one of two ways
abbrev pub IsWriteReply : Reply → Type 0
IsWriteReply reply.Ok = Unit {0}
IsWriteReply reply.Outside = Unit {0}
IsWriteReply other = ⊥

-- where it was made
abbrev pub IfMade : (Reply → Type 0) → Attempt Reply → Type 0
IfMade P (attempt.Done x) = P x.reply
IfMade P other = Unit {0}

-- ---- outcomes

-- tried again and again until it was made, or until all places were used, or there was no memory for it
abbrev pub Writes : View → Call → View → Result (Placed Reply) NotMade → Type 0
Writes v c w (Ok x) = IsPlaced v c x.reply x.place w × Leaves Keep w × GotOnly (λ q. q ≡ part.Mem) v w
Writes v c w (Err Spent) = Stays v w × (length w.seen ≡ v.setup.limits.place_last) × GotOnly (λ q. q ≡ part.Mem) v w
Writes v c w (Err NoMemory) = Stays v w × GotOnly (λ q. q ≡ part.Mem) v w

-- a write of the guest
abbrev pub Pokes : View → Addr → List ℕ → View → Result (Placed Reply) NotMade → Type 0
Pokes v addr bytes w r = Writes v (call.Poke addr bytes) w r
