use Rattle.std.proofs.Common.{◌≡◌, drop}
use Rattle.its_plain.specs.Machine.{filled}
use Rattle.owned_machine.proofs.make.fill.Given as goal

abbrev pub invariant-loop-n : goal.invariant-loop-n
invariant-loop-n l = filled l.memory l.n (drop l.n l.fills) ≡ filled l.initial.memory 0 l.fills
