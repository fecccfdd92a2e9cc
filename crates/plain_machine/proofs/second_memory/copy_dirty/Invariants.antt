use Rattle.std.proofs.Common.{◌≡◌, take}
use Rattle.dirty_log.specs.Copies.{copied}
use Rattle.plain_machine.proofs.second_memory.copy_dirty.Given as goal

abbrev pub invariant-loop-page : goal.invariant-loop-page
invariant-loop-page l = l.copy ≡ copied l.memory (take l.page-index l.pages) l.initial.copy
