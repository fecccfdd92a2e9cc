use Rattle.front_search.proofs.States.{at_returned, back_of, none_of, path_returned, reached_of}
use Rattle.front_search.proofs.search.go_back.Goals as goal

pub return_to-requires-clause-below : goal.return_to-requires-clause-below
return_to-requires-clause-below g c =
    (back_of (g.C.Recorded.Goes c.args.calls.now) (g.C.Recorded.IsEnd c.args.calls.now) c.args.threads.now c.requires.at.0 c.args.search.now
    c.keep_longest.new.self c.take_last-taken.new.self c.in-Some.last (record { no_more = c.requires.no_more; no_end = c.requires.no_end })
    c.in_ok-keep_longest.ensures (rw c.in-Some.is at c.take_last-taken.ensures) c.requires.at.1).below

pub return_to-requires-clause-some : goal.return_to-requires-clause-some
return_to-requires-clause-some g c =
    (back_of (g.C.Recorded.Goes c.args.calls.now) (g.C.Recorded.IsEnd c.args.calls.now) c.args.threads.now c.requires.at.0 c.args.search.now
    c.keep_longest.new.self c.take_last-taken.new.self c.in-Some.last (record { no_more = c.requires.no_more; no_end = c.requires.no_end })
    c.in_ok-keep_longest.ensures (rw c.in-Some.is at c.take_last-taken.ensures) c.requires.at.1).some

pub returns-in-Some-clause-back : goal.returns-in-Some-clause-back
returns-in-Some-clause-back g c =
    λ e first here. at_returned (g.C.Recorded.Goes c.args.calls.now) (g.C.Recorded.IsEnd c.args.calls.now) c.args.threads.now first c.args.search.now
    c.keep_longest.new.self c.take_last-taken.new.self c.return_to.new.self c.in-Some.last
    (record { no_more = c.requires.no_more; no_end = c.requires.no_end }) c.in_ok-keep_longest.ensures (rw c.in-Some.is at c.take_last-taken.ensures)
    c.return_to.ensures here

pub returns-in-Some-clause-path : goal.returns-in-Some-clause-path
returns-in-Some-clause-path g c =
    λ e. path_returned c.args.search.now c.keep_longest.new.self c.take_last-taken.new.self c.return_to.new.self c.in-Some.last
    c.in_ok-keep_longest.ensures (rw c.in-Some.is at c.take_last-taken.ensures) c.return_to.ensures

pub returns-in-None-clause-none : goal.returns-in-None-clause-none
returns-in-None-clause-none g c =
    λ e first here. none_of (g.C.Recorded.Goes c.args.calls.now) (g.C.Recorded.IsEnd c.args.calls.now) c.args.threads.now first c.args.search.now
    c.keep_longest.new.self (record { no_more = c.requires.no_more; no_end = c.requires.no_end }) c.in_ok-keep_longest.ensures
    (rw c.in-None.is at c.take_last-taken.ensures).path here

pub returns-in-None-clause-reached : goal.returns-in-None-clause-reached
returns-in-None-clause-reached g c =
    λ e first here. reached_of (g.C.Recorded.Goes c.args.calls.now) (g.C.Recorded.IsEnd c.args.calls.now) c.args.threads.now first c.args.search.now
    c.keep_longest.new.self c.take_last-taken.new.self c.in_ok-keep_longest.ensures (rw c.in-None.is at c.take_last-taken.ensures) here
