use Rattle.std.proofs.Common.{◌≡◌, length}
use Rattle.std.specs.List.{list_any}
use Rattle.guest_windows.specs.Fields.{pairs}
use Rattle.its_plain.specs.Doorbells.{frames_size}
use Rattle.its_plain.specs.Machine.{share}
use Rattle.plain_machine.proofs.devices_fit.shares_any.Given as goal

abbrev pub invariant-loop-rest : goal.invariant-loop-rest
invariant-loop-rest l = list_any (share (l.base.0, frames_size)) (pairs l.rest) ≡ list_any (share (l.base.0, frames_size)) (pairs l.fn.taken)

abbrev pub decreases-loop-rest : goal.decreases-loop-rest
decreases-loop-rest l = length l.rest
