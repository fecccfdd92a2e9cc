use Rattle.std.proofs.Common.{◌≡◌, ◌≢◌, ◌∙◌, length, map, refl, ap, arith}
use Rattle.its_types.specs.declared.ids.Intid.{Intid}
use Rattle.its_plain.specs.Plain.{pending_of}
use Rattle.its_history.specs.Report.{pending_text, vcpu_text}
use Rattle.trace_check.proofs.Texts.{other_pending, more_pending, texts_differ, texts_same}
use Rattle.its_fit.proofs.Answering.{is_other}
use Rattle.its_fit.proofs.recording.is_pending.Goals as goal

pub returns-then-ne : goal.returns-then-ne
returns-then-ne c =
    let i = c.loop-vcpu.vcpu in let said = c.index-told-vcpu.result in let is = c.in_ok-is.is' in
    let long : length c.args.told.now ≡ length c.args.machine.now.redistributors = omega (arith, c.if-told-vcpus.false, c.vcpus.ensures) in
    let text : is ≡ pending_text (pending_of c.args.machine.now i) = c.in_ok-is.ensures ∙ ap pending_text (ap (map (λ (x : Intid). x.0)) c.deref.ensures.value
    ∙ c.in_ok-lpis.ensures) in
    let differ : said ≢ is = texts_differ said is c.as_str.result.now c.as_str-in-loop-vcpu.result.now c.ne.result c.as_str.ensures
    c.as_str-in-loop-vcpu.ensures c.ne.ensures c.if-ne.true in
    is_other c.args.machine.now c.args.told.now (vcpu_text i said) (vcpu_text i is)
    (other_pending c.args.machine.now c.args.told.now i said is long c.loop-vcpu-test.true c.index-told-vcpu.is text c.loop-vcpu.invariant
    (vcpu_text i said) (vcpu_text i is) differ refl refl)

pub loop-vcpu-preserved : goal.loop-vcpu-preserved
loop-vcpu-preserved c =
    let i = c.loop-vcpu.vcpu in let said = c.index-told-vcpu.result in let is = c.in_ok-is.is' in
    let long : length c.args.told.now ≡ length c.args.machine.now.redistributors = omega (arith, c.if-told-vcpus.false, c.vcpus.ensures) in
    let text : is ≡ pending_text (pending_of c.args.machine.now i) = c.in_ok-is.ensures ∙ ap pending_text (ap (map (λ (x : Intid). x.0)) c.deref.ensures.value
    ∙ c.in_ok-lpis.ensures) in
    let same : said ≡ is = texts_same said is c.as_str.result.now c.as_str-in-loop-vcpu.result.now c.ne.result c.as_str.ensures c.as_str-in-loop-vcpu.ensures
    c.ne.ensures c.if-ne.false in
    more_pending c.args.machine.now c.args.told.now i said is long c.loop-vcpu-test.true c.index-told-vcpu.is text c.loop-vcpu.invariant same
