use Rattle.std.proofs.Common.{◌≡◌, Bool, sym, ap, ◌∙◌, cond}
use Rattle.its_plain.specs.Plain.{PendState, is_on}
use Rattle.owned_machine.proofs.Kept.{pend_there, pend_here}
use Rattle.owned_parts.specs.Owned.{state_of_parts}
use Rattle.step_views.specs.declared.destination.Destination.TheVariants.{Processor, LpisOff}
use Rattle.step_views.proofs.seen.target.Goals as goal

pub pend-requires : goal.pend-requires
pend-requires c = pend_there c.args.parts.now c.args.vcpu.0 c.requires.whole c.requires.below

pub returns-then-accepts : goal.returns-then-accepts
returns-then-accepts c =
    let p = c.args.parts.now in let v = c.args.vcpu in
    let on : is_on (state_of_parts p) v.0 ≡ c.pend.result.now.accepts =
    ap (λ (x : PendState). x.accepts) (pend_here p v.0 c.pend.result.now c.requires.whole c.pend.ensures) in
    sym (ap (λ (b : Bool). cond b (Processor c.args.intid c.args.icid v) (LpisOff c.args.intid c.args.icid v)) (on ∙ sym c.accepts.ensures ∙ c.if-accepts.true))

pub returns-else-accepts : goal.returns-else-accepts
returns-else-accepts c =
    let p = c.args.parts.now in let v = c.args.vcpu in
    let on : is_on (state_of_parts p) v.0 ≡ c.pend.result.now.accepts =
    ap (λ (x : PendState). x.accepts) (pend_here p v.0 c.pend.result.now c.requires.whole c.pend.ensures) in
    sym (ap (λ (b : Bool). cond b (Processor c.args.intid c.args.icid v) (LpisOff c.args.intid c.args.icid v)) (on ∙ sym c.accepts.ensures ∙ c.if-accepts.false))
