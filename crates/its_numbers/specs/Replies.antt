-- Replies as numbers.
use Rattle.std.specs.Prelude.{ℕ, List}
use Rattle.its_command.specs.Opcodes.{opcode}
use Rattle.its_plain.specs.declared.call.Ack.{Ack}
use Rattle.its_plain.specs.declared.call.Ack.TheVariants as acks
use Rattle.its_plain.specs.declared.call.Cause.{Cause}
use Rattle.its_plain.specs.declared.call.Cause.TheVariants as causes
use Rattle.its_plain.specs.declared.call.Reason.{Reason}
use Rattle.its_plain.specs.declared.call.Reason.TheVariants as reasons
use Rattle.its_plain.specs.declared.call.Signal.{Signal}
use Rattle.its_plain.specs.declared.call.Signal.TheVariants.{Delivered, Dropped}
use Rattle.its_plain.specs.declared.call.StepReply.{StepReply}
use Rattle.its_plain.specs.declared.call.StepReply.TheVariants as steps
use Rattle.its_plain.specs.declared.call.Reply.{Reply}
use Rattle.its_plain.specs.declared.call.Reply.TheVariants as replies
use Rattle.its_plain.specs.declared.call.Route.{Route}
use Rattle.its_plain.specs.declared.call.Route.TheVariants as route
use Rattle.its_numbers.specs.declared.replies.DmaOut.{DmaOut}
use Rattle.its_numbers.specs.declared.replies.SignalOut.{SignalOut}
use Rattle.its_numbers.specs.declared.replies.AckOut.{AckOut}
use Rattle.its_numbers.specs.declared.replies.StepOut.{StepOut}

-- ---- signals

abbrev pub cause_number : Cause → ℕ
cause_number causes.Disabled = 1
cause_number causes.NoDevice = 2
cause_number causes.NoEvent = 3
cause_number causes.NoCollection = 4
cause_number causes.LpisOff = 5

abbrev pub signal_out : Signal → SignalOut
signal_out (Delivered vcpu intid) = record { cause = 0; vcpu = vcpu.0; intid = intid.0 }
signal_out (Dropped cause) = record { cause = cause_number cause; vcpu = 0; intid = 0 }

-- ---- writes by address

abbrev pub no_signal : SignalOut
no_signal = record { cause = 0; vcpu = 0; intid = 0 }

-- of memory: whether it was written
abbrev pub poke_outcome : Reply → ℕ
poke_outcome replies.Ok = 0
poke_outcome _ = 1

abbrev pub dma_outcome : Route → Reply → ℕ
dma_outcome route.Poke r = poke_outcome r
dma_outcome route.NoRequester r = 2
dma_outcome route.Frame r = 3
dma_outcome (route.Signal its dev ev) r = 4

abbrev pub signal_in : Reply → SignalOut
signal_in (replies.Signal s) = signal_out s
signal_in _ = no_signal

abbrev pub dma_out : Route → Reply → DmaOut
dma_out to r = record { outcome = dma_outcome to r; signal = signal_in r }

-- ---- acknowledgements

abbrev pub ack_out : Ack → AckOut
ack_out (acks.Some intid priority) = record { intid = intid.0; priority = priority }
ack_out acks.None = record { intid = 0; priority = 0 }

-- ---- steps

abbrev pub reason_number : Reason → ℕ
reason_number reasons.UnknownCommand = 1
reason_number reasons.DeviceRange = 2
reason_number reasons.SizeRange = 3
reason_number reasons.TargetRange = 4
reason_number reasons.CollectionRange = 5
reason_number reasons.NoDevice = 6
reason_number reasons.EventRange = 7
reason_number reasons.IntidRange = 8
reason_number reasons.NoEvent = 9
reason_number reasons.NoCollection = 10
reason_number reasons.LpisOff = 11

-- with the virtual processors that are concerned
abbrev pub step_out : StepReply → List ℕ → StepOut
step_out steps.Idle c = record { outcome = 0; op = 0; reason = 0; address = 0; concerned = c }
step_out (steps.Ran op) c = record { outcome = 1; op = opcode op; reason = 0; address = 0; concerned = c }
step_out (steps.Refused op reason) c = record { outcome = 2; op = opcode op; reason = reason_number reason; address = 0; concerned = c }
step_out (steps.QueueFault at) c = record { outcome = 3; op = 0; reason = 0; address = at.0; concerned = c }
