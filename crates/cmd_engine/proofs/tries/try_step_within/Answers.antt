use Rattle.its_plain.specs.declared.call.Call.TheVariants as call
use Rattle.its_turns.specs.Machines.{setup, view}
use Rattle.cmd_engine.specs.Hands.{IsOfStep}
use Rattle.cmd_engine.proofs.Concerning.{untold_tries, untold_keeps}
use Rattle.cmd_engine.proofs.tries.try_step_within.Goals as goal

pub returns-clause-answer : goal.returns-clause-answer
returns-clause-answer g c = let i = c.args.its in let told = c.try_step_told in
    rw (c.untold.ensures)
    (untold_tries (IsOfStep i) (view c.args.pass.now) (call.Step i) (view told.new.pass) told.result told.ensures.answer)

pub returns-clause-rule : goal.returns-clause-rule
returns-clause-rule g c = let told = c.try_step_told in
    rw (c.untold.ensures)
    (untold_keeps (g.L.MapRule.forbidden c.args.rule.now) (setup c.args.machine.now).start c.args.its (view told.new.pass).seen told.result
    told.ensures.rule)
