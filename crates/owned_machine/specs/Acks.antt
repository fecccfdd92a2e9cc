-- The LPI that a virtual processor asks for.
use Rattle.std.specs.Prelude.{ℕ, Option}
use Rattle.its_plain.specs.Plain.{Plain, Redistributor, redistributor, with_redistributor}
use Rattle.its_plain.specs.Answer.{lowest, best, claimed, ack_of, taken}
use Rattle.its_plain.specs.declared.call.Ack.{Ack}
use Rattle.owned_machine.specs.declared.asked.Asked.{Asked}
use Rattle.owned_machine.specs.declared.asked.Asked.TheVariants as asked

abbrev pub chosen : Redistributor → Asked → Option ℕ
chosen r asked.Lowest = lowest r
chosen r (asked.Best mask) = best r mask
chosen r (asked.This intid) = claimed r intid.0

-- what is answered
abbrev pub ack_at : Plain → ℕ → Asked → Ack
ack_at u vcpu a = ack_of (redistributor u vcpu) (chosen (redistributor u vcpu) a)

-- it is no longer pending
abbrev pub left_at : Plain → ℕ → Asked → Plain
left_at u vcpu a = with_redistributor u vcpu (taken (redistributor u vcpu) (chosen (redistributor u vcpu) a))
