use Rattle.std.proofs.Common.{◌≡◌, true, map}
use Rattle.guest_windows.specs.Fields.{pairs}
use Rattle.dirty_log.specs.Pages.{page, pages_below}
use Rattle.plain_machine.proofs.pages.all_dirty.Given as goal

abbrev pub invariant-loop-number : goal.invariant-loop-number
invariant-loop-number l = l.pages.items ≡ map (page true) (pages_below (pairs l.windows) l.number)
