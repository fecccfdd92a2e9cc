-- Calls in little memory: those without bytes, and the places of those that have some.
use Rattle.std.specs.Prelude.{ℕ, ◌<◌, List, map, get_or}
use Rattle.its_plain.specs.declared.call.Call.{Call}
use Rattle.its_plain.specs.declared.call.Call.TheVariants as call
use Rattle.event_script.specs.declared.call_list.Short.{Short}
use Rattle.event_script.specs.declared.call_list.Short.TheVariants.{Signal, Take, Show, Best, Claim, Peek, ReadReg, WriteReg, ReadGicr, WriteGicr, Step, Save, Copy, Long}

-- the call that is kept so, beside those that have bytes
abbrev pub call_of : List Call → Short → Call
call_of long (Signal its dev ev) = call.Signal its dev ev
call_of long (Take vcpu) = call.Take vcpu
call_of long (Show vcpu) = call.Show vcpu
call_of long (Best vcpu mask) = call.Best vcpu mask
call_of long (Claim vcpu intid) = call.Claim vcpu intid
call_of long (Peek count addr) = call.Peek addr count
call_of long (ReadReg its size off) = call.ReadReg its off size
call_of long (WriteReg its size off value) = call.WriteReg its off size value
call_of long (ReadGicr vcpu size off) = call.ReadGicr vcpu off size
call_of long (WriteGicr vcpu size off value) = call.WriteGicr vcpu off size value
call_of long (Step its) = call.Step its
call_of long Save = call.Save
call_of long Copy = call.Copy
call_of long (Long place) = get_or long place call.Save

abbrev pub calls_of : List Call → List Short → List Call
calls_of long shorts = map (call_of long) shorts

-- its place is that of one of so many calls
abbrev pub IsInside : ℕ → Short → Type 0
IsInside n (Long place) = place < n
IsInside n _ = Unit {0}
