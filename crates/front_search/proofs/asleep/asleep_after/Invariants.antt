use Rattle.std.specs.List.{AllByRecursion}
use Rattle.front_search.specs.Sleeping.{SleepsOn}
use Rattle.front_search.proofs.asleep.asleep_after.Given as goal

abbrev pub invariant-loop-other : goal.invariant-loop-other
invariant-loop-other g l =
    AllByRecursion (SleepsOn (g.C.Recorded.Goes l.calls) (g.C.Recorded.IsEnd l.calls) l.threads l.search.front.items l.search.next l.search.asleep.items l.thread)
    l.asleep.items
