use Rattle.std.proofs.Common.{◌≡◌, ◌++◌, drop, filter_map}
use Rattle.event_script.proofs.places.Places.given.Given as goal

abbrev pub invariant-loop-place : goal.invariant-loop-place
invariant-loop-place g l = l.items ++ filter_map (λ place. place) (drop l.place-index l.place-items) ≡ filter_map (λ place. place) l.place-items
