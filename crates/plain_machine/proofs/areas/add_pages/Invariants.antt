use Rattle.std.proofs.Common.{◌≡◌, ◌++◌}
use Rattle.its_plain.specs.Regions as spec
use Rattle.plain_machine.proofs.areas.add_pages.Given as goal

abbrev pub invariant-loop-k : goal.invariant-loop-k
invariant-loop-k l = l.areas.items ≡ l.initial.areas.items ++ spec.pages_below l.its l.regs l.memory l.k
