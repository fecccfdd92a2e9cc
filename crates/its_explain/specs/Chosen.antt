-- Which sentence is told of a call: by its reply, and by what the machine says of what it concerns.
use Rattle.std.specs.Prelude.{◌≡◌, ℕ, Bool, true, false, List, [], ◌++◌, codes, length, Option, Some, None}
use Rattle.std.specs.Option.{option_map}
use Rattle.its_command.specs.declared.command.Command.{Command}
use Rattle.its_command.specs.declared.command.Command.TheVariants as command
use Rattle.its_plain.specs.Answer.{reply_of}
use Rattle.its_plain.specs.Plain.{Plain}
use Rattle.its_plain.specs.declared.call.Ack.{Ack}
use Rattle.its_plain.specs.declared.call.Call.{Call}
use Rattle.its_plain.specs.declared.call.Call.TheVariants as call
use Rattle.its_plain.specs.declared.call.Reason.{Reason}
use Rattle.its_plain.specs.declared.call.Reply.{Reply}
use Rattle.its_plain.specs.declared.call.Reply.TheVariants as reply
use Rattle.its_plain.specs.declared.call.StepReply.{StepReply}
use Rattle.its_plain.specs.declared.call.StepReply.TheVariants as step
use Rattle.its_explain.specs.Acks.{take_text, show_text, first_below_text, claim_text}
use Rattle.its_explain.specs.Book.{is_ok}
use Rattle.its_explain.specs.Events.{mapped_if, movi_if, set_text, cleared_text}
use Rattle.its_explain.specs.Effects.{moved_text, plain_text}
use Rattle.its_explain.specs.Looks.{look_of, fact_of}
use Rattle.its_explain.specs.LpiWrites.{lpi_write_text}
use Rattle.its_explain.specs.Mappings.{device_text, collection_text}
use Rattle.its_explain.specs.Numbers.{enclosed}
use Rattle.its_explain.specs.Refusals.{reason_text}
use Rattle.its_explain.specs.RegisterValues.{translator_text, lpi_text}
use Rattle.its_explain.specs.RegisterWrites.{write_text}
use Rattle.its_explain.specs.Replies.{idle_of, queue_fault_text, written_text, read_text, outside_text, copied_text}
use Rattle.its_explain.specs.Rereads.{reread_text}
use Rattle.its_explain.specs.Signals.{signal_text}
use Rattle.its_explain.specs.Steps.{after, taken_for}
use Rattle.its_explain.specs.Taken.{ran_text, refused_text}
use Rattle.its_explain.specs.Unmapped.{unmapped_text}
use Rattle.its_explain.specs.Views.{bases_at}
use Rattle.its_explain.specs.declared.access.Access.{Access}
use Rattle.its_explain.specs.declared.book.Book.{Book}
use Rattle.its_explain.specs.declared.facts.EventFact.{EventFact}
use Rattle.its_explain.specs.declared.facts.Fact.{Fact}
use Rattle.its_explain.specs.declared.facts.Fact.TheVariants as fact
use Rattle.its_explain.specs.declared.facts.Taken.{Taken}

-- ---- a text, or none where no clause says the words

-- the text is added, or some words are
abbrev pub Adds : Option (List ℕ) → List ℕ → List ℕ → Type 0
Adds None old new = Unit {0}
Adds (Some text) old new = new ≡ old ++ text

abbrev pub behind : List ℕ → Option (List ℕ) → Option (List ℕ)
behind words = option_map (λ (text : List ℕ). words ++ text)

-- ---- acknowledgements

-- in the state after the call
abbrev pub ack_text : Plain → Fact → Call → Ack → List ℕ
ack_text v f (call.Take vcpu) a = take_text (bases_at v vcpu.0) f vcpu.0 a
ack_text v f (call.Show vcpu) a = show_text (bases_at v vcpu.0) f vcpu.0 a
ack_text v f (call.Best vcpu mask) a = first_below_text (bases_at v vcpu.0) f vcpu.0 mask a
ack_text v f (call.Claim vcpu intid) a = claim_text f vcpu.0 intid.0 a
ack_text v f _ a = []

-- ---- steps

-- a command that names an event, in the state after the step
abbrev pub event_effect : Book → Plain → EventFact → Command → List ℕ
event_effect b v f (command.Mapti dev ev intid icid) = mapped_if b f f.after.event
event_effect b v f (command.Mapi dev ev icid) = mapped_if b f f.after.event
event_effect b v f (command.Movi dev ev icid) = movi_if f f.after.event
event_effect b v f (command.Int dev ev) = set_text f
event_effect b v f (command.Clear dev ev) = cleared_text f
event_effect b v f (command.Discard dev ev) = unmapped_text v f
event_effect b v f (command.Inv dev ev) = reread_text f
event_effect b v f _ = []

-- a command that had its effect
abbrev pub effect : Book → Plain → Fact → Command → List ℕ
effect b v (fact.Device f) c = device_text b f
effect b v (fact.Collection f) c = collection_text b f
effect b v (fact.Event f) c = event_effect b v f c
effect b v (fact.Moved count) c = moved_text c count
effect b v _ c = plain_text c

abbrev pub ran_command : Book → Plain → Fact → Taken → List ℕ
ran_command b v f t = ran_text b t.addr.0 ++ effect b v f t.command

abbrev pub ran : Book → Plain → Fact → Option Taken → List ℕ
ran b v f None = []
ran b v f (Some t) = ran_command b v f t

-- one that was refused
abbrev pub refused_command : Book → Plain → Taken → Reason → List ℕ
refused_command b v t reason = refused_text b t.addr.0 ++ reason_text b v t reason

abbrev pub refused : Book → Plain → Option Taken → Reason → List ℕ
refused b v None reason = []
refused b v (Some t) reason = refused_command b v t reason

abbrev pub step_text : Book → Plain → Fact → Option Taken → StepReply → List ℕ
step_text b v f t step.Idle = idle_of f
step_text b v f t (step.QueueFault addr) = queue_fault_text addr.0
step_text b v f t (step.Ran op) = ran b v f t
step_text b v f t (step.Refused op reason) = refused b v t reason

-- ---- guest memory, and registers

abbrev pub register_read : ℕ → Fact → List ℕ
register_read off (fact.Read value) = translator_text off value
register_read off _ = []

abbrev pub lpi_register_read : ℕ → Fact → List ℕ
lpi_register_read off (fact.Read value) = lpi_text off value
lpi_register_read off _ = []

abbrev pub register_written : Plain → ℕ → Access → Fact → List ℕ
register_written v its a (fact.Written f) = write_text v its a f
register_written v its a _ = []

abbrev pub lpi_register_written : Plain → Access → Fact → List ℕ
lpi_register_written v a (fact.LpiWritten f) = lpi_write_text v a f
lpi_register_written v a _ = []

abbrev pub access_text : Plain → Fact → Call → List ℕ
access_text v f (call.Poke addr bytes) = written_text (length bytes) addr.0
access_text v f (call.Dma req addr bytes to) = written_text (length bytes) addr.0
access_text v f (call.Peek addr count) = read_text count addr.0
access_text v f (call.ReadReg its off size) = register_read off f
access_text v f (call.ReadGicr vcpu off size) = lpi_register_read off f
access_text v f (call.WriteReg its off size value) = register_written v its (record { off = off; size = size; value = value }) f
access_text v f (call.WriteGicr vcpu off size value) = lpi_register_written v (record { off = off; size = size; value = value }) f
access_text v f _ = []

-- ---- each call

abbrev pub reply_text : Book → Plain → Fact → Option Taken → Call → Reply → Option (List ℕ)
reply_text b v f t c (reply.Signal s) = Some (signal_text b f s)
reply_text b v f t c (reply.Ack a) = Some (ack_text v f c a)
reply_text b v f t c (reply.Step s) = Some (step_text b v f t s)
reply_text b v f t c reply.Outside = Some (outside_text c)
reply_text b v f t c (reply.SaveFault fault) = None
reply_text b v f t c reply.Saved = Some (codes "all tables are written to guest memory")
reply_text b v f t c (reply.Copied pages) = Some (copied_text pages)
reply_text b v f t c reply.NoRequester = Some (codes "no `requester` line has this requester")
reply_text b v f t c reply.Ok = Some (access_text v f c)
reply_text b v f t c (reply.Bytes bytes) = Some (access_text v f c)
reply_text b v f t c (reply.Value value) = Some (access_text v f c)

-- a write of guest memory that was taken may be told as its line has it
abbrev pub may_be_as_written : Call → Reply → Bool
may_be_as_written (call.Poke addr bytes) r = is_ok r
may_be_as_written _ r = false

abbrev pub unless : Bool → Option (List ℕ) → Option (List ℕ)
unless true text = None
unless false text = text

abbrev pub line_text : ℕ → List ℕ
line_text line = enclosed (codes "line ") line (codes ": ")

abbrev pub said : Book → Plain → Fact → Option Taken → Call → Reply → Option (List ℕ)
said b v f t c r = unless (may_be_as_written c r) (reply_text b v f t c r)

-- behind the number of the call's line
abbrev pub said_of_line : Book → Plain → Fact → Option Taken → Call → ℕ → Reply → Option (List ℕ)
said_of_line b v f t c line r = behind (line_text line) (said b v f t c r)

-- what the machine says of a call, before it and after it
abbrev pub told_fact : Plain → Call → Fact
told_fact u c = fact_of (after u c) (look_of u (taken_for u c) c)

-- what is told of a call of a line, by the lines noted before it and the state before it
abbrev pub told_text : Book → Plain → Call → ℕ → Option (List ℕ)
told_text b u c line = said_of_line b (after u c) (told_fact u c) (taken_for u c) c line (reply_of u c)
