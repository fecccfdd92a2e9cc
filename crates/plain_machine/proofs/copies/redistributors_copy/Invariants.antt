use Rattle.std.proofs.Common.{◌≡◌, take}
use Rattle.plain_machine.proofs.copies.redistributors_copy.Given as goal

abbrev pub invariant-loop-redist : goal.invariant-loop-redist
invariant-loop-redist l = l.copies.items ≡ take l.redist-index l.redists
