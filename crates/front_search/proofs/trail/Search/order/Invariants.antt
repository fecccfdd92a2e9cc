use Rattle.std.proofs.Common.{◌≡◌, map, take}
use Rattle.front_search.proofs.trail.Search.order.Given as goal

abbrev pub invariant-loop-placed : goal.invariant-loop-placed
invariant-loop-placed g l = l.order.items ≡ map (λ p. p.thread) (take l.placed-index l.self.path.items)
