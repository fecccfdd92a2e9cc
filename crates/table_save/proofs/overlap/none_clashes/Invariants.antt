use Rattle.std.proofs.Common.{◌≡◌, drop}
use Rattle.std.specs.Prelude.{find}
use Rattle.its_plain.specs.Regions.{clash}
use Rattle.table_save.proofs.overlap.none_clashes.Given as goal

abbrev pub invariant-loop-other : goal.invariant-loop-other
invariant-loop-other l = find (clash l.one) (drop l.other-index l.others) ≡ find (clash l.one) l.others
