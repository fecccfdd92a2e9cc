use Rattle.std.proofs.Common.{◌≡◌, ◌++◌, List, length}
use Rattle.its_plain.specs.Regions.{none_overlap}
use Rattle.its_plain.specs.declared.area.Area.{Area}
use Rattle.table_save.proofs.overlap.find_overlap.Given as goal

abbrev pub invariant-loop-rest : goal.invariant-loop-rest
invariant-loop-rest l = record {
  before : List Area;
  all : l.fn.areas ≡ before ++ l.rest;
  so_far : none_overlap l.rest ≡ none_overlap l.fn.areas;
}

abbrev pub decreases-loop-rest : goal.decreases-loop-rest
decreases-loop-rest l = length l.rest
