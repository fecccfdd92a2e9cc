use Rattle.std.proofs.Common.{◌≡◌, ◌++◌, take, drop, map}
use Rattle.dirty_log.specs.Pages.{mark_one}
use Rattle.plain_machine.proofs.pages.mark.Given as goal

abbrev pub invariant-loop-at : goal.invariant-loop-at
invariant-loop-at l = l.pages ≡ map (mark_one l.addr l.len) (take l.at l.initial.pages) ++ drop l.at l.initial.pages
