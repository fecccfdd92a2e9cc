-- What is asked of a redistributor, which LPI that is about, and what it leaves.
use Rattle.std.specs.Prelude.{◌≡◌, ℕ, true, Option}
use Rattle.its_types.specs.Lpis.{without_lpi}
use Rattle.its_types.specs.Ranges.{is_lpi}
use Rattle.its_types.specs.declared.ids.Vcpu.{Vcpu}
use Rattle.its_plain.specs.Answer.{lowest, best, claimed, taken}
use Rattle.its_plain.specs.Plain.{Redistributor, PendState}
use Rattle.its_plain.specs.declared.call.Ack.{Ack}
use Rattle.its_plain.specs.declared.call.Ack.TheVariants as ack
use Rattle.its_plain.specs.declared.call.Call.{Call}
use Rattle.its_plain.specs.declared.call.Call.TheVariants as call
use Rattle.redist_ack.specs.declared.asked.Asked.{Asked}
use Rattle.redist_ack.specs.declared.asked.Asked.TheVariants as asked

abbrev pub call_of : Vcpu → Asked → Call
call_of vcpu asked.Take = call.Take vcpu
call_of vcpu asked.Show = call.Show vcpu
call_of vcpu (asked.Best mask) = call.Best vcpu mask
call_of vcpu (asked.Claim intid) = call.Claim vcpu intid

-- the LPI, if there is one
abbrev pub chosen : Redistributor → Asked → Option ℕ
chosen r asked.Take = lowest r
chosen r asked.Show = lowest r
chosen r (asked.Best mask) = best r mask
chosen r (asked.Claim intid) = claimed r intid.0

abbrev pub left_by : Redistributor → Asked → Redistributor
left_by r asked.Take = taken r (lowest r)
left_by r asked.Show = r
left_by r (asked.Best mask) = r
left_by r (asked.Claim intid) = taken r (claimed r intid.0)

-- the LPI of an answer is pending no more
abbrev pub acknowledged : PendState → Ack → PendState
acknowledged p ack.None = p
acknowledged p (ack.Some intid priority) = record p { pending = without_lpi intid.0 p.pending }

-- the LPI is one of so many bits, if there is one
abbrev pub IsInRange : ℕ → Ack → Type 0
IsInRange bits ack.None = Unit {0}
IsInRange bits (ack.Some intid priority) = is_lpi bits intid.0 ≡ true
