use Rattle.std.proofs.Common.{◌≡◌, drop, map}
use Rattle.std.specs.List.{list_all}
use Rattle.guest_windows.specs.Windows.{are_apart}
use Rattle.guest_windows.specs.Fields.{pairs, listed}
use Rattle.guest_windows.proofs.added.apart_from_each.Given as goal

abbrev pub invariant-loop-frame : goal.invariant-loop-frame
invariant-loop-frame l = list_all (λ w. are_apart w (l.one.0.0, l.one.1)) (pairs (map listed (drop l.frame-index l.frames)))
    ≡ list_all (λ w. are_apart w (l.one.0.0, l.one.1)) (pairs (map listed l.frames))
