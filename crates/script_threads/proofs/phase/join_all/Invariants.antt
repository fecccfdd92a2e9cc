use Rattle.std.proofs.Common.{◌≡◌, ◌≤◌, None, map, vec_len, vec_capacity}
use Rattle.std.specs.List.{AllByRecursion}
use Rattle.its_turns.specs.Machines.{view, IsOf}
use Rattle.script_threads.specs.Jobs.{SeenBy, end_of, reply_list, worst_from}
use Rattle.script_threads.specs.Roots.{TookIn}
use Rattle.script_threads.proofs.phase.join_all.Given as goal

abbrev pub invariant-loop-job : goal.invariant-loop-job
invariant-loop-job l =
    (goal.iterator-loop-job).can_next l.job-iterator × (goal.iterator-loop-job).is_finite l.job-iterator
    × IsOf l.machine l.root × TookIn (view l.fn.root) (map end_of l.yielded) (view l.root) × (l.lists.items ≡ map reply_list l.yielded)
    × (l.worst ≡ worst_from None l.yielded) × (vec_len l.fn.jobs ≤ vec_capacity l.lists)
    × AllByRecursion (SeenBy (view l.root)) l.yielded
