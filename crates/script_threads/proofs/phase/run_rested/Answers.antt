use Rattle.its_turns.specs.Machines.{view}
use Rattle.script_threads.proofs.Phases.{free_after, phased, same_setups}
use Rattle.script_threads.proofs.phase.run_rested.Goals as goal

pub join_all-stop-requires-clause-free : goal.join_all-stop-requires-clause-free
join_all-stop-requires-clause-free g c = free_after c.args.machine.now c.split_all.new.jobs.items c.run_all.new.jobs.items c.run_all.ensures.worked

pub returns-clause-phase : goal.returns-clause-phase
returns-clause-phase g c = let s = c.split_all.ensures in let j = c.join_all-stop.ensures in
    phased c.args.machine.now _ _ c.join_all-stop.result (view c.args.root.now) (view c.split_all.new.root) (view c.join_all-stop.new.root)
    c.split_all.new.jobs.items c.run_all.new.jobs.items c.requires.rests c.requires.knows
    s.gave s.calls s.new c.run_all.ensures.worked j.took j.lists j.stop
    (same_setups c.args.machine.now (view c.join_all-stop.new.root) c.split_all.new.jobs.items j.of.1 s.ready) j.told
