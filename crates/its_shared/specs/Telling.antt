-- What a call of a pass tells a caller in another language.
use Rattle.std.specs.Prelude.{◌≡◌, ℕ, List, Option, Some, Result, Ok, Err}
use Rattle.std.specs.Option.{option_map}
use Rattle.its_plain.specs.declared.call.Call.{Call}
use Rattle.its_plain.specs.declared.call.Reply.{Reply}
use Rattle.its_plain.specs.declared.desc.Desc.{Desc}
use Rattle.its_plain.specs.declared.call.Reply.TheVariants as replies
use Rattle.its_plain.specs.declared.call.Route.{Route}
use Rattle.its_plain.specs.declared.call.StepReply.{StepReply}
use Rattle.its_plain.specs.declared.fault.SaveFault.{SaveFault}
use Rattle.device_port.specs.Dmas.{reply_of}
use Rattle.device_port.specs.declared.told.Dma.{Dma}
use Rattle.its_numbers.specs.Codes as codes
use Rattle.its_numbers.specs.Faults.{save_fault_out}
use Rattle.its_numbers.specs.Replies.{step_out, dma_out}
use Rattle.its_numbers.specs.declared.faults.SaveFaultOut.{SaveFaultOut}
use Rattle.its_numbers.specs.declared.counters.Counters.{Counters}
use Rattle.its_numbers.specs.declared.limits.GuestLimits.{GuestLimits}
use Rattle.its_numbers.specs.declared.replies.DmaOut.{DmaOut}
use Rattle.its_numbers.specs.declared.replies.StepOut.{StepOut}
use Rattle.its_shared.specs.Answers.{Answers}
use Rattle.its_shared.specs.Knowing.{Known, beside, setting}
use Rattle.its_shared.specs.declared.answer.Answer.{Answer}
use Rattle.its_shared.specs.declared.answer.Answer.TheVariants.{Made, Busy, Spent, NoMemory, Full}
use Rattle.its_shared.specs.declared.pass.Pass.{Pass}

-- the number of an answer, where that of a reply is given
abbrev pub code_of : {T : Type 0} → (T → ℕ) → Answer T → ℕ
code_of of (Made p) = of p.reply
code_of of Busy = codes.busy
code_of of Spent = codes.spent
code_of of NoMemory = codes.no_memory
code_of of Full = codes.full

-- the place is told of a call that was made
abbrev pub place_after : {T : Type 0} → Answer T → ℕ → ℕ
place_after (Made p) place = p.place
place_after other place = place

-- what it is told is as it was, unless the call was made
abbrev pub out_after : {T O : Type 0} → (T → O → O) → Answer T → O → O
out_after told (Made p) out = told p.reply out
out_after told other out = out

-- There is an answer of the call which the pass knows, and these are its number, its place and its reply
pub record Tells {T O : Type 0} (of : T → ℕ) (told : T → O → O) (asked : Call) (reply : T → Reply) (k l : Known)
    (code place place' : ℕ) (out out' : O) : Type 0 where
  pub answer : Answer T
  pub answers : Answers asked reply k.view l.view answer
  pub code_is : code ≡ code_of of answer
  pub place_is : place' ≡ place_after answer place
  pub out_is : out' ≡ out_after told answer out

-- a call that was made is done, whatever its reply
abbrev pub is_done : {T : Type 0} → T → ℕ
is_done reply = codes.done

-- what is told is this of the reply
abbrev pub as_told : {T O : Type 0} → (T → O) → T → O → O
as_told f reply out = f reply

-- ---- what is told of each kind of call

-- the reply of a write of registers
abbrev pub ok : Unit {0} → Reply
ok done = replies.Ok

-- nothing but the place
abbrev pub nothing_told : {T : Type 0} → T → Unit {0} → Unit {0}
nothing_told reply out = out

abbrev pub value_told : ℕ → ℕ → ℕ
value_told value out = value

-- with the processors that it concerned
abbrev pub step_told : List ℕ → StepReply → StepOut
step_told concerned step = step_out step concerned

-- a write of guest memory, whose bytes lie in one window or don't
abbrev pub write_code : Reply → ℕ
write_code replies.Ok = codes.done
write_code other = codes.outside

-- a read of guest memory
abbrev pub read_code : Reply → ℕ
read_code (replies.Bytes bytes) = codes.done
read_code other = codes.outside

abbrev pub bytes_told : Reply → List ℕ → List ℕ
bytes_told (replies.Bytes bytes) out = bytes
bytes_told other out = out

abbrev pub save_code : Result (Unit {0}) SaveFault → ℕ
save_code (Ok done) = codes.done
save_code (Err fault) = codes.fault

-- a fault is told
abbrev pub save_told : Result (Unit {0}) SaveFault → SaveFaultOut → SaveFaultOut
save_told (Ok done) out = out
save_told (Err fault) out = save_fault_out fault

-- of a write by address that was this by the description
abbrev pub dma_told : Route → Dma → DmaOut
dma_told to answer = dma_out to (reply_of answer)

-- ---- through a handle

-- of a pass that knew k before, and l after
abbrev pub InPass : Pass → Pass → (Known → Known → Type 0) → Type 0
InPass before after P = (k l : Known) → before.known ≡ Some k → after.known ≡ Some l → P k l

-- the description of the machine that the pass of a handle is of, and the limits that it keeps to, if it has one
abbrev pub setting_of : Pass → Option (Desc × GuestLimits)
setting_of pass = option_map setting pass.known

-- and what it has counted
abbrev pub machine_of : Pass → Option (Desc × GuestLimits × ℕ × Counters)
machine_of pass = option_map beside pass.known
