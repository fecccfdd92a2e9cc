use Rattle.std.proofs.Common.{◌∙◌, sym, arith}
use Rattle.front_search.specs.Fronts as spec
use Rattle.front_search.proofs.AtOnce.{at_once_of, commutes_more}
use Rattle.front_search.proofs.at_once.goes_at_once.Goals as goal
use Rattle.front_search.proofs.at_once.goes_at_once.Goals.{then-other-thread+else-not-commutes_with, else-other-thread}

pub loop-other-preserved : goal.loop-other-preserved
loop-other-preserved g c =
    commutes_more (g.C.Recorded.Goes c.args.calls.now) (g.C.Recorded.IsEnd c.args.calls.now) c.args.threads.now c.args.search.now.front.items c.in-Some.span.end
    c.args.thread (spec.placed c.args.search.now.front.items c.args.thread) c.loop-other.other c.loop-other.invariant
    (elim c.if-other-thread.branch [
      | then-other-thread+else-not-commutes_with w ↦ λ ne. w.commutes_with.ensures w.if-not-commutes_with.false
      | else-other-thread w ↦ λ ne. absurd (ne (omega (arith, w.if-other-thread.false)))
    ])

pub returns-then-returns_later-clause-at_once : goal.returns-then-returns_later-clause-at_once
returns-then-returns_later-clause-at_once g c =
    λ e. at_once_of (g.C.Recorded.Goes c.args.calls.now) (g.C.Recorded.IsEnd c.args.calls.now) c.args.threads.now c.args.search.now.front.items c.front.result.now
    c.front-2.result.now c.args.thread c.placed.result c.loop-other.other c.in-Some.span c.front.ensures c.front-2.ensures
    (c.may_go.ensures.may_go.0 c.if-not-may_go.false) (sym c.next_of.ensures.next ∙ c.in-Some.is) c.placed.ensures
    (c.returns_later.ensures c.if-returns_later.true) c.loop-other-test.false c.loop-other.invariant
