use Rattle.std.proofs.Common.{sym, subst, ◌∙◌}
use Rattle.its_plain.specs.Commands.{lpi_set}
use Rattle.lpi_pending.specs.InHand.{RedistParts}
use Rattle.owned_parts.specs.Owned.{state_of_parts}
use Rattle.owned_machine.specs.Whole.{GoesOn}
use Rattle.owned_machine.proofs.Signalled.{signal_goes}
use Rattle.owned_machine.proofs.signals.signal.Goals as goal

pub returns-in-Ok-clause-left : goal.returns-in-Ok-clause-left
returns-in-Ok-clause-left c =
    let p = c.args.parts.now in let t = c.in-Ok.field-0 in
    subst (λ (rs : RedistParts). GoesOn (record p { redists = rs }) (lpi_set t.intid.0 t.vcpu.0 (state_of_parts p))) (sym c.set_lpi.ensures)
    (signal_goes p c.args.its c.args.dev c.args.ev t c.requires (sym c.translate.ensures.target ∙ c.in-Ok.is))
