use Rattle.std.proofs.Common.{◌≡◌, drop}
use Rattle.its_plain.specs.Commands.{all_reread_at}
use Rattle.plain_machine.proofs.redist.RedistLists.reread_all.Given as goal

abbrev pub invariant-loop-intid : goal.invariant-loop-intid
invariant-loop-intid l = all_reread_at l.memory (drop l.intid-index l.intids) l.self ≡ all_reread_at l.memory l.intids l.initial.self
