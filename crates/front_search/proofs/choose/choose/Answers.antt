use Rattle.std.proofs.Common.{◌∙◌, length, Option, Some, None, IfNone, sym}
use Rattle.front_search.specs.Sleeping.{NoneFrom}
use Rattle.front_search.proofs.Exchange.{enough_at_once}
use Rattle.front_search.proofs.Sleeping.{none_awake, none_once}
use Rattle.front_search.proofs.Trails.{enough_least}
use Rattle.front_search.proofs.choose.choose.Goals as goal

pub returns-then-is_asleep-clause-none : goal.returns-then-is_asleep-clause-none
returns-then-is_asleep-clause-none g c =
    none_once (g.C.Recorded.Goes c.args.calls.now) (g.C.Recorded.IsEnd c.args.calls.now) c.args.threads.now c.args.search.now.front.items
    c.args.search.now.state c.in-Some.thread c.args.search.now.next c.requires.long c.in-Some.ensures.at_once c.args.search.now.asleep.items c.requires.asleep
    (sym c.is_asleep.ensures ∙ c.if-is_asleep.true)

pub returns-in-Some-clause-enough : goal.returns-in-Some-clause-enough
returns-in-Some-clause-enough g c =
    enough_at_once (g.C.Recorded.Goes c.args.calls.now) (g.C.Recorded.IsEnd c.args.calls.now) c.args.threads.now c.args.search.now.front.items
    c.args.search.now.state c.in-Some.thread (length c.args.threads.now) c.requires.long c.in-Some.ensures.at_once

if_none : {A : Type 0} (o : Option A) (P : Type 0) → P → IfNone o P
if_none None P h = h
if_none (Some x) P h = tt

pub returns-in_err-thread-clause-none : goal.returns-in_err-thread-clause-none
returns-in_err-thread-clause-none g c =
    if_none c.from_residual.result (NoneFrom (g.C.Recorded.Goes c.args.calls.now) (g.C.Recorded.IsEnd c.args.calls.now) c.args.threads.now
    c.args.search.now.front.items c.args.search.now.state c.args.search.now.next)
    (λ j le. none_awake (g.C.Recorded.Goes c.args.calls.now) (g.C.Recorded.IsEnd c.args.calls.now) c.args.threads.now c.args.search.now.front.items
    c.args.search.now.state c.args.search.now.asleep.items j c.requires.asleep (c.in_err-thread.ensures.none j le))

pub returns-clause-enough : goal.returns-clause-enough
returns-clause-enough g c =
    enough_least (g.C.Recorded.Goes c.args.calls.now) (g.C.Recorded.IsEnd c.args.calls.now) c.args.threads.now c.args.search.now.front.items
    c.args.search.now.state c.args.search.now.next c.in_ok-thread.thread c.requires.none_below
    (λ j le lt. none_awake (g.C.Recorded.Goes c.args.calls.now) (g.C.Recorded.IsEnd c.args.calls.now) c.args.threads.now c.args.search.now.front.items
    c.args.search.now.state c.args.search.now.asleep.items j c.requires.asleep (c.in_ok-thread.ensures.least j le lt))
