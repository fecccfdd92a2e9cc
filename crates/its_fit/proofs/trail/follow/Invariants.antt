use Rattle.its_fit.specs.Ordered.{IsSoFar}
use Rattle.its_fit.proofs.trail.follow.Given as goal

abbrev pub invariant-loop-thread : goal.invariant-loop-thread
invariant-loop-thread l = IsSoFar l.told l.trail.calls.items l.trail.front.items l.trail.latest
