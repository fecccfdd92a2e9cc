use Rattle.std.proofs.Common.{◌<◌, length, subst, sym, ap, ◌∙◌, ℕ}
use Rattle.std.proofs.lemmas.Result.{IfOk-weaker}
use Rattle.its_plain.specs.Plain.{Plain, PendState, pending_of}
use Rattle.owned_parts.specs.Owned.{state_of_parts}
use Rattle.owned_machine.proofs.Kept.{pend_there, pend_here}
use Rattle.owned_machine.proofs.machine.Machine.pending.Goals as goal

pub pend-pend-requires : goal.pend-pend-requires
pend-pend-requires c =
    let i = c.self.inside in
    let within : c.args.vcpu < length (state_of_parts i.parts).redistributors = subst (λ (u : Plain). c.args.vcpu < length u.redistributors)
    (sym c.self.view_is) c.requires in
    pend_there i.parts c.args.vcpu c.self.invariant (subst (λ (n : ℕ). c.args.vcpu < n) c.self.invariant.sound.vcpus within)

pub returns : goal.returns
returns c =
    let here = pend_here c.self.inside.parts c.args.vcpu c.pend-pend.result.now c.self.invariant c.pend-pend.ensures in
    IfOk-weaker c.lpis.result _ _ (λ lpis are. are ∙ ap (λ (x : PendState). x.pending) (sym here) ∙ ap (λ (u : Plain). pending_of u c.args.vcpu) c.self.view_is)
    c.lpis.ensures
