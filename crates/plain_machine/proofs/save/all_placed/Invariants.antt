use Rattle.std.proofs.Common.{◌≡◌, drop}
use Rattle.its_plain.specs.Regions as spec
use Rattle.plain_machine.proofs.save.all_placed.Given as goal

abbrev pub invariant-loop-its : goal.invariant-loop-its
invariant-loop-its l = spec.all_placed l.memory l.its (drop l.its l.translators) ≡ spec.all_placed l.memory 0 l.translators
