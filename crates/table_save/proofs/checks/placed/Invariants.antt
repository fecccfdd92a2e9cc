use Rattle.std.proofs.Common.{◌≡◌}
use Rattle.std.specs.Prelude.{find}
use Rattle.std.specs.FinMap.{entries}
use Rattle.its_plain.specs.Regions.{has_no_place}
use Rattle.table_save.proofs.checks.placed.Given as goal

abbrev pub invariant-loop-dev : goal.invariant-loop-dev
invariant-loop-dev l =
    (goal.iterator-loop-dev).can_next l.dev-iterator × (goal.iterator-loop-dev).is_finite l.dev-iterator
    × (find (has_no_place l.regs l.memory) l.dev-iterator ≡ find (has_no_place l.regs l.memory) (entries l.fn.maps.maps.devices))
