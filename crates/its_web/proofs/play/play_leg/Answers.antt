use Rattle.std.proofs.Common.{◌≡◌, ◌<◌, ◌≤◌, ◌+◌, ◌++◌, ℕ, List, [], ◌∷◌, length, drop, Some, None, sym, ap, subst, ◌∙◌, arith}
use Rattle.std.proofs.lemmas.List.{length-replicate}
use Rattle.its_plain.specs.Runs.{Leg}
use Rattle.its_history.specs.declared.trace.EntryLine.{EntryLine}
use Rattle.trace_check.specs.Cursors.{threads_of, zeros, call_of, more}
use Rattle.trace_check.specs.Steps.{right_text}
use Rattle.its_web.specs.Played.{IsLine}
use Rattle.its_web.proofs.Gone.{Begins, Gone, gone_none, gone_more, gone_spent, gone_on, gone_whole}
use Rattle.its_web.proofs.Left.{left, one_less}
use Rattle.its_web.proofs.Small.{has_call, phase_at}
use Rattle.its_web.proofs.Turning.{first_is, threads_there, call_there, more_made, more_long}
use Rattle.its_web.proofs.play.play_leg.Goals as goal

pub loop-index-init : goal.loop-index-init
loop-index-init c =
    let first = c.args.machine.now in let leg = c.args.leg.now in
    subst (λ (ls : List EntryLine). Begins c.args.last first leg ls first 0) (sym c.new-lines.ensures.items) (gone_none c.args.last first leg)

pub loop-next-init : goal.loop-next-init
loop-next-init c =
    let leg = c.args.leg.now in let i = c.loop-index.index in let threads = c.as_slice-threads.result.now in let l = c.loop-index in
    let lt : i < length leg = omega (arith, c.loop-index-test.true, l.auto.index-end) in
    let made : c.in_ok-made.made.items ≡ zeros threads = c.in_ok-made.ensures.items_if_clones_equal (λ y e. e) in
    let same = first_is leg i c.index-leg-index.result threads lt c.index-leg-index.is c.as_slice-threads.ensures in
    record {
      gone = subst (λ (ns : List ℕ). Gone c.args.last c.args.machine.now leg l.lines.items l.machine i ns) (ap zeros same ∙ sym made) l.invariant;
      long = ap length made ∙ length-replicate (length threads) 0;
    }

pub returns-then-place-last : goal.returns-then-place-last
returns-then-place-last c =
    let leg = c.args.leg.now in let i = c.loop-index.index in let threads = c.as_slice-threads.result.now in let l = c.loop-next in
    let next = c.in-Some.next in
    let lt : i < length leg = omega (arith, c.loop-index-test.true, c.loop-index.auto.index-end) in
    let call = call_there leg i c.index-leg-index.result threads lt c.index-leg-index.is c.as_slice-threads.ensures c.deref.result.now l.made.items
    next.thread next.call c.deref.ensures.value c.in-Some.ensures.next in
    gone_spent c.args.last c.args.machine.now leg l.lines.items l.machine i l.made.items l.invariant.gone next call
    (omega (arith, c.if-place-last.true, c.len-place.ensures))

pub make_call-requires-clause-thread : goal.make_call-requires-clause-thread
make_call-requires-clause-thread c =
    let leg = c.args.leg.now in let i = c.loop-index.index in let threads = c.as_slice-threads.result.now in let next = c.in-Some.next in
    let lt : i < length leg = omega (arith, c.loop-index-test.true, c.loop-index.auto.index-end) in
    let few : length threads ≤ 64 = phase_at leg i threads lt
    (threads_there leg i c.index-leg-index.result threads lt c.index-leg-index.is c.as_slice-threads.ensures) c.requires.threads in
    let has = has_call threads c.deref.result.now next.thread next.call c.in-Some.ensures.next in
    omega (arith, few, has.below)

pub count-requires-clause-call : goal.count-requires-clause-call
count-requires-clause-call c =
    let threads = c.as_slice-threads.result.now in let next = c.in-Some.next in let slice = c.as_mut_slice.result.now in
    has_call threads slice next.thread next.call (subst (λ (ns : List ℕ). call_of threads ns next.thread ≡ Some next.call)
    (c.deref.ensures.value ∙ sym c.as_mut_slice.ensures.value) c.in-Some.ensures.next)

pub loop-next-smaller : goal.loop-next-smaller
loop-next-smaller c =
    let leg = c.args.leg.now in let i = c.loop-index.index in let threads = c.as_slice-threads.result.now in let l = c.loop-next in
    let next = c.in-Some.next in let phases : Leg = drop i leg in
    let lt : i < length leg = omega (arith, c.loop-index-test.true, c.loop-index.auto.index-end) in
    let call = call_there leg i c.index-leg-index.result threads lt c.index-leg-index.is c.as_slice-threads.ensures c.deref.result.now l.made.items
    next.thread next.call c.deref.ensures.value c.in-Some.ensures.next in
    let made = more_made l.made c.as_mut_slice.result.now c.count.new.made next.thread c.as_mut_slice.ensures.value c.count.ensures in
    subst (λ (ns : List ℕ). left phases ns < left phases l.made.items) (sym made) (omega (arith, one_less phases l.made.items next.thread next.call call))

pub loop-next-preserved : goal.loop-next-preserved
loop-next-preserved c =
    let leg = c.args.leg.now in let i = c.loop-index.index in let threads = c.as_slice-threads.result.now in let l = c.loop-next in
    let next = c.in-Some.next in let first = c.args.machine.now in let line = c.in_ok-line.line in let now = c.make_call.new.machine in
    let slice = c.as_mut_slice.result.now in let new = c.count.new.made in
    let lt : i < length leg = omega (arith, c.loop-index-test.true, c.loop-index.auto.index-end) in
    let call = call_there leg i c.index-leg-index.result threads lt c.index-leg-index.is c.as_slice-threads.ensures c.deref.result.now l.made.items
    next.thread next.call c.deref.ensures.value c.in-Some.ensures.next in
    let told = subst (λ (place : ℕ). IsLine place i next (right_text l.machine next.call) line) (c.len-place.ensures ∙ l.lines.ok.0)
    c.in_ok-line.ensures.line in
    let one = gone_more c.args.last first leg l.lines.items l.machine i l.made.items l.invariant.gone next line now call
    (omega (arith, c.if-place-last.false, c.len-place.ensures)) told c.in_ok-line.ensures.left in
    let made = more_made l.made slice new next.thread c.as_mut_slice.ensures.value c.count.ensures in
    let lines : Gone c.args.last first leg c.push.new.self.items now i (more l.made.items next.thread) =
    subst (λ (ls : List EntryLine). Gone c.args.last first leg ls now i (more l.made.items next.thread)) (sym c.in_ok-push.ensures.items) one in
    record {
      gone = subst (λ (ns : List ℕ). Gone c.args.last first leg c.push.new.self.items now i ns) (sym made) lines;
      long = more_long l.made slice new next.thread c.as_mut_slice.ensures.value c.count.ensures ∙ l.invariant.long;
    }

pub loop-index-preserved : goal.loop-index-preserved
loop-index-preserved c =
    let leg = c.args.leg.now in let i = c.loop-index.index in let threads = c.as_slice-threads.result.now in let l = c.loop-next in
    let lt : i < length leg = omega (arith, c.loop-index-test.true, c.loop-index.auto.index-end) in
    let there = threads_there leg i c.index-leg-index.result threads lt c.index-leg-index.is c.as_slice-threads.ensures in
    gone_on c.args.last c.args.machine.now leg l.lines.items l.machine i l.made.items l.invariant.gone threads lt there
    (λ t. subst (λ (ns : List ℕ). call_of threads ns t ≡ None) c.deref.ensures.value (c.in_default.ensures.none t))

pub returns : goal.returns
returns c =
    let leg = c.args.leg.now in let l = c.loop-index in
    gone_whole c.args.last c.args.machine.now leg l.lines.items l.machine l.index l.invariant (omega (arith, c.loop-index-test.false, l.auto.index-end))
