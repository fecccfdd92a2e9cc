use Rattle.std.proofs.Common.{◌≡◌, ◌≤◌, ◌<◌, ℕ, true}
use Rattle.front_search.specs.Fronts.{MayGo}
use Rattle.front_search.specs.Sleeping.{is_asleep}
use Rattle.front_search.proofs.choose.least_awake.Given as goal

abbrev pub invariant-loop-thread : goal.invariant-loop-thread
invariant-loop-thread g l = (j : ℕ) → l.search.next ≤ j → j < l.thread → MayGo l.threads l.search.front.items j → is_asleep l.search.asleep.items j ≡ true
