use Rattle.std.proofs.Common.{◌≡◌, ◌++◌, drop, map}
use Rattle.std.specs.Option.{unwrap_or}
use Rattle.event_script.proofs.places.Places.filled.Given as goal

abbrev pub invariant-loop-place : goal.invariant-loop-place
invariant-loop-place g l = l.items ++ map (λ place. unwrap_or place l.other) (drop l.place-index l.place-items) ≡ map (λ place. unwrap_or place l.other) l.place-items
