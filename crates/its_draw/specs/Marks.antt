-- What the picture of a call shows, by what it was answered.
use Rattle.its_plain.specs.declared.call.Ack.{Ack}
use Rattle.its_plain.specs.declared.call.Ack.TheVariants as ack
use Rattle.its_plain.specs.declared.call.Call.{Call}
use Rattle.its_plain.specs.declared.call.Call.TheVariants as call
use Rattle.its_plain.specs.declared.call.Reply.{Reply}
use Rattle.its_plain.specs.declared.call.Reply.TheVariants as reply
use Rattle.its_plain.specs.declared.call.Signal.{Signal}
use Rattle.its_plain.specs.declared.call.Signal.TheVariants as signal
use Rattle.its_plain.specs.declared.call.StepReply.{StepReply}
use Rattle.its_plain.specs.declared.call.StepReply.TheVariants as step
use Rattle.its_types.specs.declared.ids.Vcpu.{Vcpu}
use Rattle.its_draw.specs.declared.mark.Mark.{Mark}
use Rattle.its_draw.specs.declared.mark.Mark.TheVariants.{Sent, Lost, Took, NoneTaken, Ran, Refused, Idle, Saved, Failed, Other}

abbrev pub signal_mark : Signal → Mark
signal_mark (signal.Delivered vcpu intid) = Sent vcpu
signal_mark (signal.Dropped cause) = Lost

abbrev pub step_mark : StepReply → Mark
step_mark step.Idle = Idle
step_mark (step.Ran op) = Ran op
step_mark (step.Refused op reason) = Refused op
step_mark (step.QueueFault addr) = Failed

abbrev pub taken_mark : Vcpu → Ack → Mark
taken_mark vcpu (ack.Some intid priority) = Took vcpu
taken_mark vcpu ack.None = NoneTaken vcpu

abbrev pub ack_mark : Call → Ack → Mark
ack_mark (call.Take vcpu) a = taken_mark vcpu a
ack_mark (call.Claim vcpu intid) a = taken_mark vcpu a
ack_mark _ a = Other

abbrev pub mark_of : Call → Reply → Mark
mark_of c (reply.Signal s) = signal_mark s
mark_of c reply.NoRequester = Lost
mark_of c (reply.Step s) = step_mark s
mark_of c (reply.Ack a) = ack_mark c a
mark_of c reply.Saved = Saved
mark_of c (reply.SaveFault fault) = Failed
mark_of c reply.Outside = Failed
mark_of c _ = Other
