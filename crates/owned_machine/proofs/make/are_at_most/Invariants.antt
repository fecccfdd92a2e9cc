use Rattle.std.proofs.Common.{◌≡◌, map, length}
use Rattle.std.specs.Prelude.{sum, nat_le}
use Rattle.guest_windows.specs.Fields.{pairs}
use Rattle.owned_machine.proofs.make.are_at_most.Given as goal

-- the windows that are left have at most what is left
abbrev pub invariant-loop-rest : goal.invariant-loop-rest
invariant-loop-rest l = nat_le (sum (map (λ w. w.1) (pairs l.rest))) l.left ≡ nat_le (sum (map (λ w. w.1) (pairs l.windows))) l.limit

abbrev pub decreases-loop-rest : goal.decreases-loop-rest
decreases-loop-rest l = length l.rest
