use Rattle.std.proofs.Common.{◌≡◌, ◌++◌, drop}
use Rattle.its_plain.specs.Regions as spec
use Rattle.plain_machine.proofs.save.add_tables.Given as goal

abbrev pub invariant-loop-its : goal.invariant-loop-its
invariant-loop-its l = l.areas.items ++ spec.each_areas (spec.table_areas l.memory) l.its (drop l.its l.translators) ≡ l.initial.areas.items
    ++ spec.each_areas (spec.table_areas l.memory) 0 l.translators
