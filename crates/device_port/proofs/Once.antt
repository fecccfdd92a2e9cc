-- Devices' writes by address, tried once: from what a message and a write of memory answer to what the call says.
use Rattle.std.proofs.Common.{◌≡◌, ℕ, [], ◌∷◌, refl, sym, subst}
use Rattle.its_types.specs.declared.ids.DeviceId.{DeviceId}
use Rattle.its_types.specs.declared.ids.EventId.{EventId}
use Rattle.its_types.specs.declared.machine.Part.TheVariants as part
use Rattle.its_plain.specs.declared.call.Call.{Call}
use Rattle.its_plain.specs.declared.call.Reply.{Reply}
use Rattle.its_plain.specs.declared.call.Reply.TheVariants as reply
use Rattle.its_plain.specs.declared.call.Route.{Route}
use Rattle.its_plain.specs.declared.call.Route.TheVariants as route
use Rattle.its_plain.specs.declared.call.Signal.{Signal}
use Rattle.its_steps.specs.World.{View}
use Rattle.its_steps.specs.declared.change.ShardChange.TheVariants.{Keep}
use Rattle.its_turns.specs.Calls.{IsPlaced, Leaves, TriesPart}
use Rattle.its_turns.specs.declared.attempts.Attempt.{Attempt}
use Rattle.its_turns.specs.declared.attempts.Attempt.TheVariants as attempt
use Rattle.guest_port.specs.Pokes.{IsWriteReply, IfMade}
use Rattle.device_port.specs.Dmas.{reply_of, Answers}
use Rattle.device_port.specs.Messages.{message}
use Rattle.device_port.specs.Signals.{SignalsOnce}
use Rattle.device_port.specs.Tries.{DmasOnce, message_tried, written, write_tried}

module _ (v : View) (c : Call) (w : View) where
  -- a message
  by_signal : (its : ℕ) (dev : DeviceId) (ev : EventId) (a : Attempt Signal) → SignalsOnce v c (message its dev ev) w a
      → DmasOnce v c (route.Signal its dev ev) w (message_tried a)
  by_signal its dev ev (attempt.Done p) once = once
  by_signal its dev ev (attempt.Busy b) once = (once.0, (once.1, once.3, once.4), once.2)
  by_signal its dev ev (attempt.Raced r) once = once
  by_signal its dev ev attempt.Spent once = once

  pub message_tries : (its : ℕ) (dev : DeviceId) (ev : EventId) (to : Route) → to ≡ route.Signal its dev ev → (a : Attempt Signal)
      → SignalsOnce v c (message its dev ev) w a → DmasOnce v c to w (message_tried a)
  message_tries its dev ev to is a once = subst (λ (t : Route). DmasOnce v c t w (message_tried a)) (sym is) (by_signal its dev ev a once)

  -- a write of memory
  as_written : (r : Reply) → IsWriteReply r → reply_of (written r) ≡ r
  as_written reply.Ok is = refl
  as_written reply.Outside is = refl
  as_written other is = absurd is

  answers_written : (r : Reply) → IsWriteReply r → Leaves Keep w → Answers route.Poke (written r) w
  answers_written reply.Ok is leaves = leaves
  answers_written reply.Outside is leaves = leaves
  answers_written other is leaves = absurd is

  by_write : (a : Attempt Reply) → TriesPart v part.Mem c (λ (r : Reply). r) w a → IfMade IsWriteReply a → DmasOnce v c route.Poke w (write_tried a)
  by_write (attempt.Done p) tries kind = (
    part.Mem ∷ [],
    refl,
    subst (λ (r : Reply). IsPlaced v c r p.place w) (sym (as_written p.reply kind)) tries.0,
    answers_written p.reply kind tries.1,
    tries.2,
  )
  by_write (attempt.Busy b) tries kind = ([], (refl, tries.0), tries.1)
  by_write (attempt.Raced r) tries kind = (part.Mem ∷ [], refl, tries)
  by_write attempt.Spent tries kind = (part.Mem ∷ [], refl, tries)

  pub write_tries : (to : Route) → to ≡ route.Poke → (a : Attempt Reply) → TriesPart v part.Mem c (λ (r : Reply). r) w a → IfMade IsWriteReply a
      → DmasOnce v c to w (write_tried a)
  write_tries to is a tries kind = subst (λ (t : Route). DmasOnce v c t w (write_tried a)) (sym is) (by_write a tries kind)
