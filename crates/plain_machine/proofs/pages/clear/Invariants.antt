use Rattle.std.proofs.Common.{◌≡◌, ◌++◌, false, take, drop, map}
use Rattle.dirty_log.specs.Pages.{set_one}
use Rattle.plain_machine.proofs.pages.clear.Given as goal

abbrev pub invariant-loop-at : goal.invariant-loop-at
invariant-loop-at l = l.pages ≡ map (set_one false) (take l.at l.initial.pages) ++ drop l.at l.initial.pages
