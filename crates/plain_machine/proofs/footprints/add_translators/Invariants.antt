use Rattle.std.proofs.Common.{◌≡◌, ◌++◌}
use Rattle.its_plain.specs.Parts.{translators_below}
use Rattle.plain_machine.proofs.footprints.add_translators.Given as goal

abbrev pub invariant-loop-its : goal.invariant-loop-its
invariant-loop-its l = l.found.items ≡ l.initial.found.items ++ translators_below l.its
