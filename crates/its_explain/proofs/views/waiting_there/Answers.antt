use Rattle.std.proofs.Common.{◌≡◌, IfOk, sym, subst, ◌∙◌}
use Rattle.call_facts.specs.Lpis.{waiting}
use Rattle.its_plain.specs.Plain.{Redistributor}
use Rattle.owned_machine.proofs.Kept.{conf_there, pend_there, conf_lpis, pend_lpis, redistributor_here}
use Rattle.its_explain.proofs.views.waiting_there.Goals as goal

pub conf-requires : goal.conf-requires
conf-requires c = conf_there c.args.parts.now c.args.vcpu.0 c.requires.whole c.requires.below

pub pend-requires : goal.pend-requires
pend-requires c = pend_there c.args.parts.now c.args.vcpu.0 c.requires.whole c.requires.below

pub waiting_at-requires : goal.waiting_at-requires
waiting_at-requires c =
    pend_lpis c.args.parts.now c.args.vcpu.0 c.pend.result.now c.requires.whole c.pend.ensures
    ∙ sym (conf_lpis c.args.parts.now c.args.vcpu.0 c.conf.result.now c.requires.whole c.conf.ensures)

pub returns : goal.returns
returns c =
    let p = c.args.parts.now in
    let v = c.args.vcpu.0 in
    subst (λ (r : Redistributor). IfOk c.waiting_at.result (λ w. w ≡ waiting r))
    (sym
    (redistributor_here p v c.conf.result.now c.pend.result.now c.requires.whole (record { conf = c.conf.ensures; pend = c.pend.ensures })))
    c.waiting_at.ensures
