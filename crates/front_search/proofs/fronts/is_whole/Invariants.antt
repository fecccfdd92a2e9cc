use Rattle.std.proofs.Common.{◌≡◌, ◌<◌, ℕ, None}
use Rattle.front_search.specs.Fronts as spec
use Rattle.front_search.proofs.fronts.is_whole.Given as goal

abbrev pub invariant-loop-thread : goal.invariant-loop-thread
invariant-loop-thread l = (j : ℕ) → j < l.thread → spec.next_of l.threads l.front j ≡ None
