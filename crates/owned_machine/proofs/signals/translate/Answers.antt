use Rattle.std.proofs.Common.{sym, ap, ◌∙◌, ℕ}
use Rattle.its_types.specs.Ranges.{is_lpi}
use Rattle.its_plain.specs.Plain.{PendState}
use Rattle.cmd_exec.specs.InHand.{is_held_on}
use Rattle.owned_parts.specs.Owned.{state_of_parts}
use Rattle.owned_machine.proofs.Kept.{pend_there, pend_lpis, pend_here, takes}
use Rattle.owned_machine.proofs.Signalled.{target_is, when_on, when_off}
use Rattle.owned_machine.proofs.signals.translate.Goals as goal

pub pend-requires : goal.pend-requires
pend-requires c =
    let t = target_is c.args.parts.now c.args.its c.args.dev.0 c.args.ev.0 c.in_ok-target.target c.requires
    (sym c.located.ensures ∙ c.in_ok-target.was) in
    pend_there c.args.parts.now c.in_ok-target.target.vcpu.0 c.requires t.0

pub returns-clause-takes : goal.returns-clause-takes
returns-clause-takes c =
    let p = c.args.parts.now in let target = c.in_ok-target.target in
    let t = target_is p c.args.its c.args.dev.0 c.args.ev.0 target c.requires (sym c.located.ensures ∙ c.in_ok-target.was) in
    let bits = pend_lpis p target.vcpu.0 c.pend.result.now c.requires c.pend.ensures in
    takes p.redists target.vcpu.0 target.intid.0 c.pend.result.now c.pend.ensures (ap (λ (b : ℕ). is_lpi b target.intid.0) bits ∙ t.1)

pub returns-then-not-accepts-clause-target : goal.returns-then-not-accepts-clause-target
returns-then-not-accepts-clause-target c =
    let p = c.args.parts.now in let t = c.in_ok-target.target in
    let here = pend_here p t.vcpu.0 c.pend.result.now c.requires c.pend.ensures in
    when_off (state_of_parts p) c.args.its c.args.dev.0 c.args.ev.0 t (sym c.located.ensures ∙ c.in_ok-target.was)
    (ap (λ (x : PendState). x.accepts) here ∙ sym c.accepts.ensures ∙ c.if-not-accepts.true)

pub returns-clause-target : goal.returns-clause-target
returns-clause-target c =
    let p = c.args.parts.now in let t = c.in_ok-target.target in
    let here = pend_here p t.vcpu.0 c.pend.result.now c.requires c.pend.ensures in
    when_on (state_of_parts p) c.args.its c.args.dev.0 c.args.ev.0 t (sym c.located.ensures ∙ c.in_ok-target.was)
    (ap (λ (x : PendState). x.accepts) here ∙ sym c.accepts.ensures ∙ c.if-not-accepts.false)

pub returns-clause-on : goal.returns-clause-on
returns-clause-on c = ap is_held_on c.pend.ensures ∙ sym c.accepts.ensures ∙ c.if-not-accepts.false
