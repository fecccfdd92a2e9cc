use Rattle.std.proofs.Common.{◌≡◌, ◌++◌, take, drop, map}
use Rattle.its_plain.specs.Commands.{all_reread_at}
use Rattle.plain_machine.proofs.redists.reread_each.Given as goal

abbrev pub invariant-loop-redist : goal.invariant-loop-redist
invariant-loop-redist l = l.all ≡ map (all_reread_at l.memory l.intids) (take l.redist-index l.initial.all) ++ drop l.redist-index l.initial.all
