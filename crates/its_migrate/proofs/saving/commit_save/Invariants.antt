use Rattle.its_turns.specs.Machines.{view, IsOf}
use Rattle.its_migrate.specs.Saving.{Waits}
use Rattle.its_migrate.proofs.saving.commit_save.Given as goal

abbrev pub invariant-loop : goal.invariant-loop
invariant-loop g l =
    (goal.iterator-loop g).can_next l.iterator' × (goal.iterator-loop g).is_finite l.iterator' × IsOf l.machine l.pass × Waits (view l.fn.pass) (view l.pass)
