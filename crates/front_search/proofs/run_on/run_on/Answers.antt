use Rattle.std.proofs.Common.{length}
use Rattle.front_search.specs.Trails.{GoesOn}
use Rattle.front_search.proofs.States.{at_run_on}
use Rattle.front_search.proofs.run_on.run_on.Goals as goal

pub returns-in_ok-place-in-Some-clause-at : goal.returns-in_ok-place-in-Some-clause-at
returns-in_ok-place-in-Some-clause-at g c =
    let goes : GoesOn (g.C.Recorded.Goes c.args.calls.now) c.args.threads.now c.args.search.now c.in-Some.further.thread c.in-Some.further.state =
    rw c.in-Some.is at c.in_ok-further.ensures.goes in
    λ e first here. at_run_on (g.C.Recorded.Goes c.args.calls.now) (g.C.Recorded.IsEnd c.args.calls.now) c.args.threads.now first c.args.search.now
    c.place.new.self c.skip.new.self c.in-Some.further.thread (length c.args.threads.now) (length c.args.threads.now) c.in-Some.further.state c.new.result.items c.requires.none goes
    c.new.ensures.items c.in_ok-place-in-Some.ensures c.skip.ensures here
