use Rattle.std.proofs.Common.{sym, ap, ◌∙◌}
use Rattle.std.proofs.lemmas.Result.{IfOk-weaker}
use Rattle.its_plain.specs.Plain.{PendState}
use Rattle.owned_machine.proofs.Kept.{pend_there, pend_here}
use Rattle.report_places.proofs.listing.pending_at.Goals as goal

pub pend-requires : goal.pend-requires
pend-requires c = pend_there c.args.parts.now c.args.vcpu.0 c.requires.whole c.requires.below

pub returns : goal.returns
returns c =
    let here = pend_here c.args.parts.now c.args.vcpu.0 c.pend.result.now c.requires.whole c.pend.ensures in
    IfOk-weaker c.lpis.result _ _ (λ lpis are. are ∙ ap (λ (x : PendState). x.pending) (sym here)) c.lpis.ensures
