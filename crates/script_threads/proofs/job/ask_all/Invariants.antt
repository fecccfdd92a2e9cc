use Rattle.std.proofs.Common.{◌≤◌, length, vec_capacity}
use Rattle.its_turns.specs.Machines.{view, IsOf}
use Rattle.script_threads.specs.Jobs.{Doing}
use Rattle.script_threads.proofs.job.ask_all.Given as goal

abbrev pub invariant-loop-index : goal.invariant-loop-index
invariant-loop-index g l = IsOf l.machine l.pass × Doing (view l.fn.pass) l.calls l.index l.done.items (view l.pass)
    × (length l.calls ≤ vec_capacity l.done) × (l.index ≤ length l.calls)
