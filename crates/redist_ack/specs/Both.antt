-- Both parts of a redistributor, taken one after the other without waiting.
use Rattle.std.specs.Prelude.{◌≡◌, ◌⊎◌, List, [], ◌∷◌, Result}
use Rattle.its_types.specs.declared.ids.Vcpu.{Vcpu}
use Rattle.its_types.specs.declared.machine.Part.TheVariants as part
use Rattle.its_types.specs.declared.machine.Placed.{Placed}
use Rattle.its_plain.specs.Plain.{ConfState, PendState}
use Rattle.its_plain.specs.declared.call.Ack.{Ack}
use Rattle.its_plain.specs.declared.call.Call.{Call}
use Rattle.its_plain.specs.declared.call.Reply.TheVariants as reply
use Rattle.its_steps.specs.Calls.{redistributor_held}
use Rattle.its_steps.specs.Contents.{Held, Conf, Pend}
use Rattle.its_steps.specs.World.{View, took}
use Rattle.its_turns.specs.Calls.{WasBusy, TriesBoth, AsksBoth}
use Rattle.its_turns.specs.declared.attempts.Attempt.{Attempt}
use Rattle.its_turns.specs.declared.attempts.Spent.{Spent}
use Rattle.its_turns.specs.declared.turns.Busy.{Busy}

-- the configuration was got first
abbrev pub TakesBoth : View → Vcpu → ConfState → PendState → View → Type 0
TakesBoth v vcpu c p w = w ≡ took (took v (part.Conf vcpu) (Conf c)) (part.Pend vcpu) (Pend p)

-- the turn of one was another pass's, and none is held
abbrev pub WasBusyAtEither : View → Vcpu → Busy → View → Type 0
WasBusyAtEither v vcpu b w = ((b.part ≡ part.Conf vcpu) × WasBusy v [] b w) ⊎ ((b.part ≡ part.Pend vcpu) × WasBusy v (part.Conf vcpu ∷ []) b w)

-- both are held, above all else
abbrev pub OwesBoth : View → Vcpu → ConfState → PendState → Type 0
OwesBoth v vcpu c p = (before : List Held) × (v.held ≡ redistributor_held vcpu c p before)

-- ---- the outcome of an acknowledgement

-- tried once
abbrev pub TriesAck : View → Vcpu → Call → View → Attempt Ack → Type 0
TriesAck v vcpu call w result = TriesBoth v (part.Conf vcpu) (part.Pend vcpu) call reply.Ack w result

-- and again until it was made
abbrev pub AsksAck : View → Vcpu → Call → View → Result (Placed Ack) Spent → Type 0
AsksAck v vcpu call w result = AsksBoth v (part.Conf vcpu) (part.Pend vcpu) call reply.Ack w result
