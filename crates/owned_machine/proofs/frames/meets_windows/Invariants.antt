use Rattle.std.proofs.Common.{◌≡◌, length}
use Rattle.std.specs.List.{list_any}
use Rattle.guest_windows.specs.Fields.{pairs}
use Rattle.its_plain.specs.Machine.{share}
use Rattle.owned_machine.specs.Frames.{place_of}
use Rattle.owned_machine.proofs.frames.meets_windows.Given as goal

abbrev pub invariant-loop-rest : goal.invariant-loop-rest
invariant-loop-rest l = list_any (share (place_of l.base)) (pairs l.rest) ≡ list_any (share (place_of l.base)) (pairs l.fn.windows)

abbrev pub decreases-loop-rest : goal.decreases-loop-rest
decreases-loop-rest l = length l.rest
