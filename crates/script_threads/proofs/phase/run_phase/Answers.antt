use Rattle.its_turns.specs.Machines.{view}
use Rattle.script_threads.proofs.Roots.{knows_looked, rests_looked}
use Rattle.script_threads.proofs.Phases.{phased_before}
use Rattle.script_threads.proofs.phase.run_phase.Goals as goal

pub run_rested-requires-clause-rests : goal.run_rested-requires-clause-rests
run_rested-requires-clause-rests g c κs within = rests_looked (view c.args.root.now) (view c.look.new.pass) c.look.result c.requires.rests c.look.ensures.looks

pub run_rested-requires-clause-knows : goal.run_rested-requires-clause-knows
run_rested-requires-clause-knows g c κs within = knows_looked (view c.args.root.now) (view c.look.new.pass) c.look.result c.requires.rests.lone.0
    c.look.ensures.looks

pub returns-clause-phase : goal.returns-clause-phase
returns-clause-phase g c = phased_before _ _ _ (view c.args.root.now) (view c.look.new.pass) (view c.run_rested.new.root) c.look.result c.requires.rests
    c.look.ensures.looks c.run_rested.ensures.phase
