use Rattle.std.proofs.Common.{◌≡◌, ◌+◌, ◌≤◌, drop, length, vec_len, vec_capacity}
use Rattle.its_turns.specs.Machines.{view, IsOf}
use Rattle.script_threads.specs.Jobs.{HasRoom}
use Rattle.script_threads.proofs.Rooms.{Made}
use Rattle.script_threads.proofs.phase.split_all.Given as goal

abbrev pub invariant-loop-done : goal.invariant-loop-done
invariant-loop-done l =
    (goal.iterator-loop-done).can_next l.done-iterator × (goal.iterator-loop-done).is_finite l.done-iterator
    × IsOf l.machine l.root × Made l.machine l.threads (view l.fn.root) l.jobs.items (view l.root)
    × HasRoom (drop (length l.jobs.items) l.threads) l.done-iterator.rest.items
    × (vec_len l.jobs + l.done-iterator.rest.len ≡ length l.threads) × (length l.threads ≤ vec_capacity l.jobs)
