use Rattle.std.proofs.Common.{◌≡◌, drop}
use Rattle.std.specs.Prelude.{find}
use Rattle.its_plain.specs.Regions.{is_outside}
use Rattle.table_save.proofs.checks.all_inside.Given as goal

abbrev pub invariant-loop-area : goal.invariant-loop-area
invariant-loop-area l = find (is_outside l.memory) (drop l.area-index l.areas) ≡ find (is_outside l.memory) l.areas
