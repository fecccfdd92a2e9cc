use Rattle.std.proofs.Common.{◌≡◌, ◌≤◌, ◌<◌, ℕ, Some}
use Rattle.front_search.specs.Fronts as spec
use Rattle.front_search.specs.declared.span.Span.{Span}
use Rattle.front_search.proofs.fronts.may_go.Given as goal

abbrev pub invariant-loop-other : goal.invariant-loop-other
invariant-loop-other l = (j : ℕ) (o : Span) → j < l.other → spec.next_of l.threads l.front j ≡ Some o → l.span.begin ≤ o.end
