use Rattle.std.proofs.Common.{◌≡◌, ◌⊎◌, ◌+◌, ◌++◌, suc, drop, length, Any}
use Rattle.its_history.specs.Merged.{all_lines}
use Rattle.script_threads.specs.Legs.{StopsAtMemory, phase_lines}
use Rattle.script_threads.specs.Phases.{IsCutAtMemory, SomeThread}
use Rattle.script_threads.proofs.leg.add_lists.Given as goal

abbrev pub invariant-loop-replies : goal.invariant-loop-replies
invariant-loop-replies l =
    (goal.iterator-loop-replies).can_next l.replies-iterator × (goal.iterator-loop-replies).is_finite l.replies-iterator
    × (all_lines l.all.items ++ phase_lines l.phase (suc l.thread) (drop l.thread l.threads) l.replies-iterator.rest.items ≡ all_lines l.fn.all.items
    ++ phase_lines l.phase 1 l.threads l.fn.lists.items)
    × (l.thread + l.replies-iterator.rest.len ≡ length l.threads)
    × (SomeThread IsCutAtMemory l.threads l.fn.lists.items → Any StopsAtMemory l.all.items
    ⊎ SomeThread IsCutAtMemory (drop l.thread l.threads) l.replies-iterator.rest.items)
