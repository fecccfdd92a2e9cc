use Rattle.std.proofs.Common.{◌≡◌, length}
use Rattle.guest_windows.specs.Fields.{pairs}
use Rattle.dirty_log.specs.Pages.{is_there}
use Rattle.plain_machine.proofs.pages.is_there.Given as goal

abbrev pub invariant-loop-rest : goal.invariant-loop-rest
invariant-loop-rest l = is_there (pairs l.rest) l.number ≡ is_there (pairs l.fn.windows) l.number

abbrev pub decreases-loop-rest : goal.decreases-loop-rest
decreases-loop-rest l = length l.rest
