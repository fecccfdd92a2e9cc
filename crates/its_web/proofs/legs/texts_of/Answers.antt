use Rattle.std.proofs.Common.{◌≡◌, ◌∙◌, map, ap, arith}
use Rattle.its_types.specs.declared.ids.Intid.{Intid}
use Rattle.its_plain.specs.Plain.{pending_of}
use Rattle.its_history.specs.Report.{pending_text}
use Rattle.its_web.proofs.Pending.{pending_more}
use Rattle.its_web.proofs.legs.texts_of.Goals as goal

pub loop-vcpu-preserved : goal.loop-vcpu-preserved
loop-vcpu-preserved c =
    let i = c.loop-vcpu.vcpu in let u = c.args.machine.now in
    let is : c.in_ok-text.text ≡ pending_text (pending_of u i) = c.in_ok-text.ensures ∙ ap pending_text (ap (map (λ (x : Intid). x.0)) c.deref.ensures.value
    ∙ c.in_ok-lpis.ensures) in
    c.in_ok-push.ensures.ok ∙ pending_more u c.loop-vcpu.texts i c.in_ok-text.text (omega (arith, c.loop-vcpu-test.true, c.vcpus-vcpu-end.ensures))
    c.loop-vcpu.invariant is
