use Rattle.std.proofs.Common.{◌≡◌, drop, map}
use Rattle.std.specs.Prelude.{nat_le, sum}
use Rattle.guest_windows.specs.Fields.{pairs}
use Rattle.plain_machine.proofs.make.are_within.Given as goal

abbrev pub invariant-loop-window : goal.invariant-loop-window
invariant-loop-window l = nat_le (sum (map (λ w. w.1) (pairs (drop l.window-index l.windows)))) l.left
    ≡ nat_le (sum (map (λ w. w.1) (pairs l.windows))) l.limit
