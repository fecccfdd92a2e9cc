-- How calls, replies and faults are printed: addresses, register offsets and values, priorities and opcodes without a name as 0x and
-- hexadecimal digits, bytes as hexadecimal digits, all other numbers in decimal.
use Rattle.std.specs.Prelude.{ℕ, false, ◌==◌, if◌then◌else◌, List, [], ◌++◌, codes}
use Rattle.std.specs.Fmt.{decimal, digits}
use Rattle.gits_regs.specs.declared.values.Register.{Register}
use Rattle.gits_regs.specs.declared.values.Register.TheVariants as register
use Rattle.hex.specs.Hex.{encode_lower}
use Rattle.its_command.specs.declared.command.Op.{Op}
use Rattle.its_command.specs.declared.command.Op.TheVariants as op
use Rattle.its_plain.specs.declared.call.Ack.{Ack}
use Rattle.its_plain.specs.declared.call.Ack.TheVariants as ack
use Rattle.its_plain.specs.declared.call.Call.{Call}
use Rattle.its_plain.specs.declared.call.Call.TheVariants as call
use Rattle.its_plain.specs.declared.call.Cause.{Cause}
use Rattle.its_plain.specs.declared.call.Cause.TheVariants as cause
use Rattle.its_plain.specs.declared.call.Reason.{Reason}
use Rattle.its_plain.specs.declared.call.Reason.TheVariants as reason
use Rattle.its_plain.specs.declared.call.Reply.{Reply}
use Rattle.its_plain.specs.declared.call.Reply.TheVariants as reply
use Rattle.its_plain.specs.declared.call.Signal.{Signal}
use Rattle.its_plain.specs.declared.call.Signal.TheVariants as signal
use Rattle.its_plain.specs.declared.call.StepReply.{StepReply}
use Rattle.its_plain.specs.declared.call.StepReply.TheVariants as step
use Rattle.its_plain.specs.declared.fault.Region.{Region}
use Rattle.its_plain.specs.declared.fault.Region.TheVariants as region
use Rattle.its_plain.specs.declared.fault.RestoreFault.{RestoreFault}
use Rattle.its_plain.specs.declared.fault.RestoreFault.TheVariants as restore
use Rattle.its_plain.specs.declared.fault.SaveFault.{SaveFault}
use Rattle.its_plain.specs.declared.fault.SaveFault.TheVariants as save
use Rattle.its_plain.specs.declared.fault.Table.{Table}
use Rattle.its_plain.specs.declared.fault.Table.TheVariants as table

abbrev pub hexadecimal : ℕ → List ℕ
hexadecimal n = codes "0x" ++ digits 16 false n

-- what the calls and faults of a translator begin with, and the names of its tables
unfoldable pub its_mark : ℕ → List ℕ
its_mark its = if its == 0 then [] else codes "b "

unfoldable pub table_mark : ℕ → List ℕ
table_mark its = if its == 0 then [] else codes "b-"

unfoldable pub call_text : Call → List ℕ
call_text (call.Signal its dev ev) = its_mark its ++ codes "signal " ++ decimal dev.0 ++ codes " " ++ decimal ev.0
call_text (call.Take vcpu) = codes "take " ++ decimal vcpu.0
call_text (call.Show vcpu) = codes "show " ++ decimal vcpu.0
call_text (call.Best vcpu mask) = codes "best " ++ decimal vcpu.0 ++ codes " " ++ hexadecimal mask
call_text (call.Claim vcpu intid) = codes "claim " ++ decimal vcpu.0 ++ codes " " ++ decimal intid.0
call_text (call.Poke addr bytes) = codes "poke " ++ hexadecimal addr.0 ++ codes " " ++ encode_lower bytes
call_text (call.Peek addr count) = codes "peek " ++ hexadecimal addr.0 ++ codes " " ++ decimal count
call_text (call.ReadReg its off size) = its_mark its ++ codes "read " ++ hexadecimal off ++ codes " " ++ decimal size
call_text (call.WriteReg its off size value) =
    its_mark its ++ codes "write " ++ hexadecimal off ++ codes " " ++ decimal size ++ codes " " ++ hexadecimal value
call_text (call.ReadGicr vcpu off size) = codes "rread " ++ decimal vcpu.0 ++ codes " " ++ hexadecimal off ++ codes " " ++ decimal size
call_text (call.WriteGicr vcpu off size value) =
    codes "rwrite " ++ decimal vcpu.0 ++ codes " " ++ hexadecimal off ++ codes " " ++ decimal size ++ codes " " ++ hexadecimal value
call_text (call.Step its) = its_mark its ++ codes "step"
call_text call.Save = codes "save"
call_text call.Copy = codes "copy"
call_text (call.Dma req addr bytes route) = codes "dma " ++ decimal req ++ codes " " ++ hexadecimal addr.0 ++ codes " " ++ encode_lower bytes

unfoldable pub op_text : Op → List ℕ
op_text op.Movi = codes "movi"
op_text op.Int = codes "int"
op_text op.Clear = codes "clear"
op_text op.Sync = codes "sync"
op_text op.Mapd = codes "mapd"
op_text op.Mapc = codes "mapc"
op_text op.Mapti = codes "mapti"
op_text op.Mapi = codes "mapi"
op_text op.Inv = codes "inv"
op_text op.Invall = codes "invall"
op_text op.Movall = codes "movall"
op_text op.Discard = codes "discard"
op_text (op.Unknown opcode) = hexadecimal opcode

unfoldable pub cause_text : Cause → List ℕ
cause_text cause.Disabled = codes "disabled"
cause_text cause.NoDevice = codes "no-device"
cause_text cause.NoEvent = codes "no-event"
cause_text cause.NoCollection = codes "no-collection"
cause_text cause.LpisOff = codes "lpis-off"

unfoldable pub reason_text : Reason → List ℕ
reason_text reason.UnknownCommand = codes "unknown-command"
reason_text reason.DeviceRange = codes "device-range"
reason_text reason.SizeRange = codes "size-range"
reason_text reason.TargetRange = codes "target-range"
reason_text reason.CollectionRange = codes "collection-range"
reason_text reason.NoDevice = codes "no-device"
reason_text reason.EventRange = codes "event-range"
reason_text reason.IntidRange = codes "intid-range"
reason_text reason.NoEvent = codes "no-event"
reason_text reason.NoCollection = codes "no-collection"
reason_text reason.LpisOff = codes "lpis-off"

unfoldable pub signal_text : Signal → List ℕ
signal_text (signal.Delivered vcpu intid) = codes "delivered " ++ decimal vcpu.0 ++ codes " " ++ decimal intid.0
signal_text (signal.Dropped why) = codes "dropped " ++ cause_text why

unfoldable pub ack_text : Ack → List ℕ
ack_text (ack.Some intid priority) = codes "lpi " ++ decimal intid.0 ++ codes " " ++ hexadecimal priority
ack_text ack.None = codes "none"

unfoldable pub step_text : StepReply → List ℕ
step_text step.Idle = codes "idle"
step_text (step.Ran name) = codes "ran " ++ op_text name
step_text (step.Refused name why) = codes "refused " ++ op_text name ++ codes " " ++ reason_text why
step_text (step.QueueFault addr) = codes "queue-fault " ++ hexadecimal addr.0

unfoldable pub region_text : Region → List ℕ
region_text (region.Devices its) = table_mark its ++ codes "devices"
region_text (region.Level1 its) = table_mark its ++ codes "level1"
region_text (region.Page its k) = table_mark its ++ codes "page " ++ decimal k
region_text (region.Collections its) = table_mark its ++ codes "collections"
region_text (region.Itt its dev) = table_mark its ++ codes "itt " ++ decimal dev.0
region_text (region.Pending vcpu) = codes "pending " ++ decimal vcpu.0
region_text region.Config = codes "config"
region_text (region.ConfigOf vcpu) = codes "config " ++ decimal vcpu.0
region_text (region.Queue its) = table_mark its ++ codes "queue"

unfoldable pub save_fault_text : SaveFault → List ℕ
save_fault_text (save.NoPlace its dev) = codes "no-place " ++ its_mark its ++ decimal dev.0
save_fault_text (save.Outside r) = codes "outside " ++ region_text r
save_fault_text (save.Overlap r s) = codes "overlap " ++ region_text r ++ codes " " ++ region_text s

unfoldable pub register_text : Register → List ℕ
register_text register.Cbaser = codes "cbaser"
register_text register.Creadr = codes "creadr"
register_text register.Cwriter = codes "cwriter"
register_text register.Baser0 = codes "baser0"
register_text register.Baser1 = codes "baser1"

-- an entry that leads too far, by its number and how far it leads
unfoldable pub past_end_text : Table → ℕ → ℕ → List ℕ
past_end_text table.Devices entry next = codes "past-end devices " ++ decimal entry ++ codes " " ++ decimal next
past_end_text (table.Itt dev) entry next = codes "past-end itt " ++ decimal dev.0 ++ codes " " ++ decimal entry ++ codes " " ++ decimal next

unfoldable pub restore_fault_text : RestoreFault → List ℕ
restore_fault_text (restore.NotValid r) = codes "not-valid " ++ register_text r
restore_fault_text (restore.OutsideTable addr) = codes "outside-table " ++ hexadecimal addr.0
restore_fault_text (restore.BadCollection icid) = codes "bad-collection " ++ decimal icid.0
restore_fault_text (restore.BadTarget icid n) = codes "bad-target " ++ decimal icid.0 ++ codes " " ++ decimal n
restore_fault_text (restore.DoubleCollection icid) = codes "double-collection " ++ decimal icid.0
restore_fault_text (restore.BadSize dev) = codes "bad-size " ++ decimal dev.0
restore_fault_text (restore.PastEnd t entry next) = past_end_text t entry next
restore_fault_text (restore.BadIntid dev ev intid) = codes "bad-intid " ++ decimal dev.0 ++ codes " " ++ decimal ev.0 ++ codes " " ++ decimal intid.0
restore_fault_text (restore.BadRedist vcpu) = codes "bad-redist " ++ decimal vcpu.0

unfoldable pub reply_text : Reply → List ℕ
reply_text (reply.Signal s) = signal_text s
reply_text (reply.Ack a) = ack_text a
reply_text reply.Ok = codes "ok"
reply_text reply.Outside = codes "outside"
reply_text (reply.Bytes bytes) = codes "bytes " ++ encode_lower bytes
reply_text (reply.Value value) = codes "value " ++ hexadecimal value
reply_text (reply.Step s) = step_text s
reply_text reply.Saved = codes "saved"
reply_text (reply.SaveFault fault) = codes "save-fault " ++ save_fault_text fault
reply_text (reply.Copied pages) = codes "copied " ++ decimal pages
reply_text reply.NoRequester = codes "dropped no-requester"

-- a call and what it was answered
unfoldable pub answered_text : Call → Reply → List ℕ
answered_text c r = call_text c ++ codes " -> " ++ reply_text r
