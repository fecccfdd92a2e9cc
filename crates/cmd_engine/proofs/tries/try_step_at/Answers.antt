use Rattle.its_turns.specs.Machines.{setup, view}
use Rattle.cmd_engine.proofs.Ruled.{not_full}
use Rattle.cmd_engine.proofs.tries.try_step_at.Goals as goal

pub returns-clause-never_full : goal.returns-clause-never_full
returns-clause-never_full g c = not_full (setup c.args.machine.now).start c.args.its (view c.try_step_within.new.pass).seen c.try_step_within.result
    c.try_step_within.ensures.rule
