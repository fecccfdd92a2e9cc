use Rattle.std.proofs.Common.{◌≡◌, replicate, None}
use Rattle.event_script.proofs.places.Places.of.Given as goal

abbrev pub invariant-loop : goal.invariant-loop
invariant-loop g l = l.places.items ≡ replicate l.counter None
