use Rattle.std.proofs.Common.{sym, subst, ◌∙◌, ◌≡◌, true}
use Rattle.its_plain.specs.declared.call.Ack.{Ack}
use Rattle.lpi_pending.specs.InHand.{RedistParts}
use Rattle.cmd_exec.specs.InHand.{takes_lpi}
use Rattle.owned_parts.specs.Owned.{state_of_parts}
use Rattle.owned_machine.specs.Acks.{left_at}
use Rattle.owned_machine.specs.Whole.{GoesOn, IfAcked}
use Rattle.owned_machine.specs.declared.asked.Asked.TheVariants as asked
use Rattle.owned_machine.proofs.Signalled.{take_goes}
use Rattle.owned_machine.proofs.acks.take.Goals as goal

pub clear_lpi-requires : goal.clear_lpi-requires
clear_lpi-requires c = subst (λ (a : Ack). IfAcked a (λ intid. takes_lpi c.args.parts.now.redists c.args.vcpu.0 intid ≡ true)) c.in-Some.is
    c.look-ack.ensures.takes

pub returns-in-Some-clause-left : goal.returns-in-Some-clause-left
returns-in-Some-clause-left c =
    let p = c.args.parts.now in
    subst (λ (rs : RedistParts). GoesOn (record p { redists = rs }) (left_at (state_of_parts p) c.args.vcpu.0 asked.Lowest)) (sym c.clear_lpi.ensures)
    (take_goes p c.args.vcpu c.in-Some.intid _ c.requires (sym c.look-ack.ensures.ack ∙ c.in-Some.is))
