use Rattle.front_search.proofs.States.{at_placed, at_skipped, path_placed, path_skipped}
use Rattle.front_search.proofs.search.try_call.Goals as goal

pub returns-in_ok-place-in-Some-clause-at : goal.returns-in_ok-place-in-Some-clause-at
returns-in_ok-place-in-Some-clause-at g c =
    λ first here. at_placed (g.C.Recorded.Goes c.args.calls.now) (g.C.Recorded.IsEnd c.args.calls.now) c.args.threads.now first c.args.search.now
    c.place.new.self c.args.choice.thread c.args.choice.next c.in-Some.state c.state.result.now c.placed-call.result c.in_ok-asleep-in-Some.asleep.items c.state.ensures
    c.placed-call.ensures c.requires.may_go (rw c.in-Some.is at c.in_ok-tried.ensures.goes) (rw c.in-Some.is at c.in_ok-tried.ensures.one) c.requires.enough
    c.in_ok-asleep-in-Some.ensures c.in_ok-place-in-Some.ensures here

pub returns-in_ok-place-in-Some-clause-path : goal.returns-in_ok-place-in-Some-clause-path
returns-in_ok-place-in-Some-clause-path g c =
    path_placed c.args.choice.thread c.args.choice.next c.in-Some.state c.in_ok-asleep-in-Some.asleep.items c.args.search.now c.place.new.self c.in_ok-place-in-Some.ensures

pub returns-in-None-clause-at : goal.returns-in-None-clause-at
returns-in-None-clause-at g c =
    λ first here. at_skipped (g.C.Recorded.Goes c.args.calls.now) (g.C.Recorded.IsEnd c.args.calls.now) c.args.threads.now first c.args.search.now
    c.skip.new.self c.args.choice.thread c.args.choice.next c.state.result.now c.placed-call.result c.state.ensures c.placed-call.ensures
    (rw c.in-None.is at c.in_ok-tried.ensures.goes) c.requires.enough c.skip.ensures here

pub returns-in-None-clause-path : goal.returns-in-None-clause-path
returns-in-None-clause-path g c = path_skipped c.args.choice.next c.args.search.now c.skip.new.self c.skip.ensures
