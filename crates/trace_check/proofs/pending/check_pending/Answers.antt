use Rattle.std.proofs.Common.{◌≡◌, ◌≢◌, ◌∙◌, map, ap}
use Rattle.its_types.specs.declared.ids.Intid.{Intid}
use Rattle.its_plain.specs.Plain.{pending_of}
use Rattle.its_history.specs.Report.{pending_text}
use Rattle.trace_check.proofs.Texts.{other_pending, more_pending, texts_differ, texts_same}
use Rattle.trace_check.proofs.pending.check_pending.Goals as goal

pub returns-then-ne-clause-wrong : goal.returns-then-ne-clause-wrong
returns-then-ne-clause-wrong c =
    let i = c.loop-vcpu.vcpu in let said = c.index-told-vcpu.result in let is = c.in_ok-is.is' in
    let text : is ≡ pending_text (pending_of c.args.machine.now i) = c.in_ok-is.ensures ∙ ap pending_text (ap (map (λ (x : Intid). x.0)) c.deref.ensures.value
    ∙ c.in_ok-lpis.ensures) in
    let differ : said ≢ is = texts_differ said is c.as_str.result.now c.as_str-in-loop-vcpu.result.now c.ne.result c.as_str.ensures
    c.as_str-in-loop-vcpu.ensures c.ne.ensures c.if-ne.true in
    other_pending c.args.machine.now c.args.told.now i said is c.requires c.loop-vcpu-test.true c.index-told-vcpu.is text c.loop-vcpu.invariant
    c.in_ok-said.said c.in_ok-is-2.is' differ c.in_ok-said.ensures c.in_ok-is-2.ensures

pub loop-vcpu-preserved : goal.loop-vcpu-preserved
loop-vcpu-preserved c =
    let i = c.loop-vcpu.vcpu in let said = c.index-told-vcpu.result in let is = c.in_ok-is.is' in
    let text : is ≡ pending_text (pending_of c.args.machine.now i) = c.in_ok-is.ensures ∙ ap pending_text (ap (map (λ (x : Intid). x.0)) c.deref.ensures.value
    ∙ c.in_ok-lpis.ensures) in
    let same : said ≡ is = texts_same said is c.as_str.result.now c.as_str-in-loop-vcpu.result.now c.ne.result c.as_str.ensures c.as_str-in-loop-vcpu.ensures
    c.ne.ensures c.if-ne.false in
    more_pending c.args.machine.now c.args.told.now i said is c.requires c.loop-vcpu-test.true c.index-told-vcpu.is text c.loop-vcpu.invariant same
