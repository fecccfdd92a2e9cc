use Rattle.std.proofs.Common.{◌≡◌, Option, Some, sym, ap, subst, ◌∙◌}
use Rattle.lpi_pending.specs.InHand.{set_pend}
use Rattle.lpi_pending.specs.PendingSets.{PendingSet}
use Rattle.lpi_pending.specs.Pend.{Pend}
use Rattle.owned_machine.specs.Stale.{FitsPlace, with_pending}
use Rattle.owned_machine.proofs.stale.put.Goals as goal

pub replace-requires-clause-same : goal.replace-requires-clause-same
replace-requires-clause-same c = (subst (FitsPlace c.args.pending) c.pend_mut-pend.ensures.value c.requires.fits).0

pub returns-else-accepts : goal.returns-else-accepts
returns-else-accepts c =
    let p = c.pend_mut-pend.result.now in
    let here = c.pend_mut-pend.ensures.value in
    let same : c.args.pending ≡ p.pending =
    (subst (FitsPlace c.args.pending) here c.requires.fits).1 (sym c.accepts.ensures ∙ c.if-accepts.false) in
    ap (λ (o : Option Pend). set_pend c.args.redists.now c.args.vcpu.0 o)
    (sym (ap (with_pending c.args.pending) here ∙ ap (λ (s : PendingSet). Some (record p { pending = s })) same))
