use Rattle.std.proofs.Common.{◌<◌, ◌≢◌, ℕ}
use Rattle.front_search.specs.Commuting.{CommutesWith}
use Rattle.front_search.specs.Fronts as spec
use Rattle.front_search.proofs.at_once.goes_at_once.Given as goal

abbrev pub invariant-loop-other : goal.invariant-loop-other
invariant-loop-other g l = (j : ℕ) → j < l.other → j ≢ l.thread
    → CommutesWith (g.C.Recorded.Goes l.calls) (g.C.Recorded.IsEnd l.calls) l.threads l.search.front.items l.span.end l.thread (spec.placed l.search.front.items l.thread) j
