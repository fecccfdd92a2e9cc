use Rattle.std.proofs.Common.{◌≡◌, length}
use Rattle.guest_windows.specs.Fields.{pairs}
use Rattle.step_views.specs.Pairs as spec
use Rattle.its_shared.proofs.needed.is_told.Given as goal

-- it is told where it is among those that are left
abbrev pub invariant-loop-at : goal.invariant-loop-at
invariant-loop-at l = spec.is_told (l.address.0, l.length) (pairs l.rest) ≡ spec.is_told (l.address.0, l.length) (pairs l.told)

abbrev pub decreases-loop-at : goal.decreases-loop-at
decreases-loop-at l = length l.rest
