use Rattle.std.proofs.Common.{◌≡◌, ◌≤◌, ◌<◌, ℕ, Some}
use Rattle.front_search.specs.Commuting.{Commutes}
use Rattle.front_search.specs.Fronts as spec
use Rattle.front_search.specs.declared.span.Span.{Span}
use Rattle.front_search.proofs.at_once.commutes_with.Given as goal

abbrev pub invariant-loop-number : goal.invariant-loop-number
invariant-loop-number g l = (n : ℕ) (s : Span) → spec.placed l.search.front.items l.other ≤ n → n < l.number → spec.call_of l.threads l.other n ≡ Some s
    → Commutes (g.C.Recorded.Goes l.calls) (g.C.Recorded.IsEnd l.calls) l.thread (spec.placed l.search.front.items l.thread) l.other n
