use Rattle.std.proofs.Common.{◌≡◌, length, drop}
use Rattle.its_history.specs.Merged.{all_lines}
use Rattle.script_gen.specs.Summary as spec
use Rattle.script_gen.proofs.counts.Counts.of.Given as goal

abbrev pub invariant-loop-list : goal.invariant-loop-list
invariant-loop-list l = record {
  room : spec.HasRoomFor (length (all_lines (drop l.list-index l.lists))) l.counts;
  counts : spec.with_lists (drop l.list-index l.lists) l.counts ≡ spec.with_lists l.lists spec.none;
}
