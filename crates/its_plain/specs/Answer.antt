-- What each call is answered, and the state that it leaves.
use Rattle.std.specs.Prelude.{ℕ, Bool, not, ◌&&◌, ◌||◌, ◌==◌, nat_lt, nat_le, if◌then◌else◌, Option, Some, None, Result, Ok, Err, List, length}
use Rattle.std.specs.Option.{option_map}
use Rattle.guest_windows.specs.Windows.{Window, read_at, write_at}
use Rattle.dirty_log.specs.Pages.{dirty_count}
use Rattle.dirty_log.specs.Copies.{wrote, caught_up}
use Rattle.dirty_log.specs.declared.tracked.Tracked.{Tracked}
use Rattle.gicr_regs.specs.Registers.{read_gicr, written_gicr}
use Rattle.gits_regs.specs.Registers.{Registers, Written, read_reg, write_reg, queue_place, is_queue_empty, advanced}
use Rattle.gits_regs.specs.declared.change.RegChange.{RegChange}
use Rattle.gits_regs.specs.declared.change.RegChange.TheVariants as change
use Rattle.its_command.specs.Commands.{decoded, op_of}
use Rattle.its_command.specs.declared.command.Op.{Op}
use Rattle.its_types.specs.Lpis.{first_enabled, first_by_priority, claimable, priority_of, without_lpi}
use Rattle.its_types.specs.Maps.{Maps, devices_emptied, collections_emptied}
use Rattle.its_types.specs.declared.ids.Addr.{Addr}
use Rattle.its_types.specs.declared.machine.Shape.{Shape}
use Rattle.its_types.specs.declared.ids.Target.{Target}
use Rattle.its_plain.specs.Plain.{Plain, Translator, Redistributor, translator, redistributor, regs_of, with_translator, with_regs, with_redistributor}
use Rattle.its_plain.specs.Translation.{translated}
use Rattle.its_plain.specs.Commands.{ran, lpi_set}
use Rattle.its_plain.specs.Regions.{savable}
use Rattle.its_plain.specs.Saved.{saved, words_of, wrote_tables}
use Rattle.its_plain.specs.declared.call.Ack.{Ack}
use Rattle.its_plain.specs.declared.call.Ack.TheVariants as ack
use Rattle.its_plain.specs.declared.call.Call.{Call}
use Rattle.its_plain.specs.declared.call.Call.TheVariants as call
use Rattle.its_plain.specs.declared.call.Cause.{Cause}
use Rattle.its_plain.specs.declared.call.Reason.{Reason}
use Rattle.its_plain.specs.declared.call.Reply.{Reply}
use Rattle.its_plain.specs.declared.call.Reply.TheVariants as reply
use Rattle.its_plain.specs.declared.call.Route.{Route}
use Rattle.its_plain.specs.declared.call.Route.TheVariants as route
use Rattle.its_plain.specs.declared.call.Signal.{Signal}
use Rattle.its_plain.specs.declared.call.Signal.TheVariants.{Delivered, Dropped}
use Rattle.its_plain.specs.declared.call.StepReply.{StepReply}
use Rattle.its_plain.specs.declared.call.StepReply.TheVariants.{Idle, Ran, Refused, QueueFault}
use Rattle.its_plain.specs.declared.fault.SaveFault.{SaveFault}

-- ---- signals

abbrev pub signal_reply : Result Target Cause → Signal
signal_reply (Ok target) = Delivered target.vcpu target.intid
signal_reply (Err cause) = Dropped cause

-- what a signal leaves that was answered so: it changes the target's pending set alone
abbrev pub signal_left : Plain → Signal → Plain
signal_left u (Delivered vcpu intid) = lpi_set intid.0 vcpu.0 u
signal_left u (Dropped cause) = u

-- ---- acknowledgements

-- the lowest LPI that is pending and enabled at a redistributor
abbrev pub lowest : Redistributor → Option ℕ
lowest r = first_enabled r.config r.pending

-- the first by priority of those below a mask
abbrev pub best : Redistributor → ℕ → Option ℕ
best r mask = first_by_priority r.config mask r.pending

abbrev pub claimed : Redistributor → ℕ → Option ℕ
claimed r intid = claimable r.config intid r.pending

abbrev pub ack_of : Redistributor → Option ℕ → Ack
ack_of r None = ack.None
ack_of r (Some intid) = ack.Some (record { 0 = intid }) (priority_of r.config intid)

abbrev pub taken : Redistributor → Option ℕ → Redistributor
taken r None = r
taken r (Some intid) = record r { pending = without_lpi intid r.pending }

-- ---- guest memory

abbrev pub poke_reply : Option (List Window) → Reply
poke_reply None = reply.Outside
poke_reply (Some memory) = reply.Ok

-- where the bytes were written, their pages are dirty
abbrev pub poke_left : Plain → ℕ → List ℕ → Option (List Window) → Plain
poke_left u address bytes None = u
poke_left u address bytes (Some memory) = record u { memory = memory; track = option_map (wrote address (length bytes)) u.track }

abbrev pub poked : Plain → ℕ → List ℕ → Plain
poked u address bytes = poke_left u address bytes (write_at u.memory address bytes)

-- 1 to 64 bytes, where one window has them
abbrev pub peeked : Plain → ℕ → ℕ → Option (List ℕ)
peeked u address count = if nat_lt 0 count && nat_le count 64 then read_at u.memory address count else None

abbrev pub peek_reply : Option (List ℕ) → Reply
peek_reply None = reply.Outside
peek_reply (Some bytes) = reply.Bytes bytes

-- ---- registers

-- the maps after a write of a register
abbrev pub emptied : RegChange → Maps → Maps
emptied change.DevicesEmptied m = devices_emptied m
emptied change.CollectionsEmptied m = collections_emptied m
emptied _ m = m

-- both tables are the same
abbrev pub has_same_tables : Registers → Registers → Bool
has_same_tables r r' = r.baser0 == r'.baser0 && r.baser1 == r'.baser1

-- where the shape says so, a table that is named again keeps what is mapped
abbrev pub translator_written : Shape → Translator → Written → Translator
translator_written s t w = record { regs = w.regs; maps = if s.linux && has_same_tables t.regs w.regs then t.maps else emptied w.change t.maps }

unfoldable pub written : Plain → ℕ → ℕ → ℕ → ℕ → Plain
written u i off size value = with_translator u i (translator_written u.layout.shape (translator u i) (write_reg (regs_of u i) off size value))

-- ---- the LPI registers of redistributors, where the guest programs them

abbrev pub gicr_read : Plain → ℕ → ℕ → ℕ → ℕ
gicr_read u vcpu off size = if u.layout.gicr then read_gicr u.layout.shape.linux (redistributor u vcpu).bases off size else 0

abbrev pub gicr_written : Plain → ℕ → ℕ → ℕ → ℕ → Plain
gicr_written u vcpu off size value =
    if u.layout.gicr then with_redistributor u vcpu (written_gicr u.layout.shape u.memory (redistributor u vcpu) off size value) else u

-- ---- steps

abbrev pub went_on : ℕ → Plain → Plain
went_on i u = with_regs u i (advanced (regs_of u i))

abbrev pub command_reply : Op → Result Plain Reason → StepReply
command_reply op (Ok after) = Ran op
command_reply op (Err reason) = Refused op reason

-- a refused command changes nothing but CREADR
abbrev pub command_left : Plain → Result Plain Reason → Plain
command_left u (Ok after) = after
command_left u (Err reason) = u

-- whether a translator has no command to take
abbrev pub is_idle : Plain → ℕ → Bool
is_idle u i = not (regs_of u i).enabled || is_queue_empty (regs_of u i)

-- the bytes of the next command, where one window has them
abbrev pub next_bytes : Plain → ℕ → Option (List ℕ)
next_bytes u i = read_at u.memory (queue_place (regs_of u i)) 32

abbrev pub met_reply : Plain → ℕ → Option (List ℕ) → StepReply
met_reply u i None = QueueFault (record { 0 = queue_place (regs_of u i) })
met_reply u i (Some bytes) = command_reply (op_of (decoded bytes)) (ran u i (decoded bytes))

abbrev pub met_left : Plain → ℕ → Option (List ℕ) → Plain
met_left u i None = u
met_left u i (Some bytes) = went_on i (command_left u (ran u i (decoded bytes)))

unfoldable pub step_reply : Plain → ℕ → StepReply
step_reply u i = if is_idle u i then Idle else met_reply u i (next_bytes u i)

unfoldable pub step_left : Plain → ℕ → Plain
step_left u i = if is_idle u i then u else met_left u i (next_bytes u i)

-- ---- saves

abbrev pub save_reply : Result (Unit {0}) SaveFault → Reply
save_reply (Ok done) = reply.Saved
save_reply (Err fault) = reply.SaveFault fault

-- a refused save changes nothing
abbrev pub save_left : Plain → Result (Unit {0}) SaveFault → Plain
save_left u (Ok done) = record u { memory = saved u; track = option_map (wrote_tables (words_of u)) u.track }
save_left u (Err fault) = u

-- ---- copies

-- how many pages are dirty; none is where the machine has no second memory
abbrev pub copy_count : Option Tracked → ℕ
copy_count None = 0
copy_count (Some t) = dirty_count t.log

abbrev pub copy_left : Plain → Plain
copy_left u = record u { track = option_map (caught_up u.memory) u.track }

-- ---- writes by address

abbrev pub route_reply : Plain → Addr → List ℕ → Route → Reply
route_reply u addr bytes (route.Signal its dev ev) = reply.Signal (signal_reply (translated u its dev.0 ev.0))
route_reply u addr bytes route.Poke = poke_reply (write_at u.memory addr.0 bytes)
route_reply u addr bytes route.NoRequester = reply.NoRequester
route_reply u addr bytes route.Frame = reply.Outside

-- ---- all calls

unfoldable pub reply_of : Plain → Call → Reply
reply_of u (call.Signal its dev ev) = reply.Signal (signal_reply (translated u its dev.0 ev.0))
reply_of u (call.Take vcpu) = reply.Ack (ack_of (redistributor u vcpu.0) (lowest (redistributor u vcpu.0)))
reply_of u (call.Show vcpu) = reply.Ack (ack_of (redistributor u vcpu.0) (lowest (redistributor u vcpu.0)))
reply_of u (call.Best vcpu mask) = reply.Ack (ack_of (redistributor u vcpu.0) (best (redistributor u vcpu.0) mask))
reply_of u (call.Claim vcpu intid) = reply.Ack (ack_of (redistributor u vcpu.0) (claimed (redistributor u vcpu.0) intid.0))
reply_of u (call.Poke addr bytes) = poke_reply (write_at u.memory addr.0 bytes)
reply_of u (call.Peek addr count) = peek_reply (peeked u addr.0 count)
reply_of u (call.ReadReg its off size) = reply.Value (read_reg (regs_of u its) off size)
reply_of u (call.WriteReg its off size value) = reply.Ok
reply_of u (call.ReadGicr vcpu off size) = reply.Value (gicr_read u vcpu.0 off size)
reply_of u (call.WriteGicr vcpu off size value) = reply.Ok
reply_of u (call.Step its) = reply.Step (step_reply u its)
reply_of u call.Save = save_reply (savable u)
reply_of u call.Copy = reply.Copied (copy_count u.track)
reply_of u (call.Dma req addr bytes to) = route_reply u addr bytes to

abbrev pub replied : Plain → Reply → Plain
replied u (reply.Signal s) = signal_left u s
replied u _ = u

abbrev pub route_left : Plain → Addr → List ℕ → Route → Reply → Plain
route_left u addr bytes route.Poke r = poked u addr.0 bytes
route_left u addr bytes to r = replied u r

-- what a call leaves that was answered so
unfoldable pub left : Plain → Call → Reply → Plain
left u (call.Signal its dev ev) r = replied u r
left u (call.Take vcpu) r = with_redistributor u vcpu.0 (taken (redistributor u vcpu.0) (lowest (redistributor u vcpu.0)))
left u (call.Show vcpu) r = u
left u (call.Best vcpu mask) r = u
left u (call.Claim vcpu intid) r = with_redistributor u vcpu.0 (taken (redistributor u vcpu.0) (claimed (redistributor u vcpu.0) intid.0))
left u (call.Poke addr bytes) r = poked u addr.0 bytes
left u (call.Peek addr count) r = u
left u (call.ReadReg its off size) r = u
left u (call.WriteReg its off size value) r = written u its off size value
left u (call.ReadGicr vcpu off size) r = u
left u (call.WriteGicr vcpu off size value) r = gicr_written u vcpu.0 off size value
left u (call.Step its) r = step_left u its
left u call.Save r = save_left u (savable u)
left u call.Copy r = copy_left u
left u (call.Dma req addr bytes to) r = route_left u addr bytes to r

abbrev pub answer : Plain → Call → Reply × Plain
answer u c = (reply_of u c, left u c (reply_of u c))
