use Rattle.std.proofs.Common.{◌≡◌, take}
use Rattle.plain_machine.proofs.copies.translators_copy.Given as goal

abbrev pub invariant-loop-translator : goal.invariant-loop-translator
invariant-loop-translator l = l.copies.items ≡ take l.translator-index l.translators
