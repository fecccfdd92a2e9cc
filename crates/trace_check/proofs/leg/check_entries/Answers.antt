use Rattle.std.proofs.Common.{◌≡◌, ◌∙◌, ◌+◌, suc, length, refl, ap, arith}
use Rattle.its_history.specs.Report.{told_text}
use Rattle.its_history.specs.Texts.{answered_text}
use Rattle.trace_check.specs.Steps.{right_text}
use Rattle.trace_check.specs.declared.verdict.Difference.{Difference}
use Rattle.trace_check.proofs.Entries.{went_none, went_more, differs_here, ends_early, all_right}
use Rattle.trace_check.proofs.leg.check_entries.Goals as goal

pub loop-place-init : goal.loop-place-init
loop-place-init c = went_none c.args.machine.now c.args.leg.now c.args.entries.now c.in_ok-cursor.cursor c.in_ok-cursor.ensures.at
    c.in_ok-cursor.ensures.counted

pub loop-place-preserved : goal.loop-place-preserved
loop-place-preserved c =
    let l = c.loop-place in
    went_more c.args.machine.now c.args.leg.now c.args.entries.now l.place l.machine l.cursor l.invariant c.index-entries-place.result c.check_entry.new.machine
    c.check_entry.new.cursor c.requires c.loop-place-test.true c.index-entries-place.is
    (rw c.in_default.is at c.in_ok-is.ensures.right) (rw c.in_default.is at c.in_ok-is.ensures.counted)

pub returns-in-Some-clause-wrong : goal.returns-in-Some-clause-wrong
returns-in-Some-clause-wrong c =
    let l = c.loop-place in let line = c.index-entries-place.result in
    let d : Difference = record { leg = c.args.number; place = l.place; said = c.in_ok-said.said; is = c.in-Some.is' } in
    let said : c.in_ok-said.said ≡ told_text line.phase line.thread line.text = c.in_ok-said.ensures
    ∙ (λ j. told_text (c.into.ensures j) (c.into-in-Some.ensures j) line.text) in
    differs_here c.args.machine.now c.args.leg.now c.args.entries.now l.place l.machine l.cursor l.invariant c.args.number line d c.loop-place-test.true
    c.index-entries-place.is
    (rw c.in-Some.is at c.in_ok-is.ensures.wrong) refl refl said

pub returns-in_default-least-clause-right : goal.returns-in_default-least-clause-right
returns-in_default-least-clause-right c =
    let l = c.loop-place in
    all_right c.args.machine.now c.args.leg.now c.args.entries.now l.place l.machine l.cursor l.invariant c.loop-place-test.false
    (rw c.in_default-least.is at c.least.ensures.none)

pub returns-clause-wrong : goal.returns-clause-wrong
returns-clause-wrong c =
    let l = c.loop-place in let n = c.in-Some-least.next in
    let d : Difference = record { leg = c.args.number; place = length c.args.entries.now; said = c.in_ok-nothing.field-0; is = c.in_ok-told_text.field-0 } in
    let text : c.in_ok-text.text ≡ right_text l.machine n.call = c.in_ok-text.ensures ∙ ap (answered_text n.call) c.in_ok-reply.ensures.reply in
    let thread : n.thread + 1 ≡ suc n.thread = omega arith in
    let is : c.in_ok-told_text.field-0 ≡ told_text l.cursor.number (suc n.thread) (right_text l.machine n.call) = c.in_ok-told_text.ensures
    ∙ (λ j. told_text (c.number.ensures j) (thread j) (text j)) in
    ends_early c.args.machine.now c.args.leg.now c.args.entries.now l.place l.machine l.cursor l.invariant c.args.number n.thread n.call d
    c.loop-place-test.false l.auto.place-end c.in-Some-least.ensures.next c.in-Some-least.ensures.least
    refl refl c.in_ok-nothing.ensures is
