use Rattle.std.proofs.Common.{◌≡◌}
use Rattle.its_history.specs.Merged.{all_lines}
use Rattle.its_history.proofs.threads.merge_lines.Given as goal

abbrev pub invariant-loop-list : goal.invariant-loop-list
invariant-loop-list l =
    (goal.iterator-loop-list).can_next l.list-iterator × (goal.iterator-loop-list).is_finite l.list-iterator
    × (l.lines.items ≡ all_lines l.yielded)
