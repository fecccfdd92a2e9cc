use Rattle.its_plain.specs.declared.call.Call.TheVariants as call
use Rattle.its_turns.specs.Machines.{setup, view}
use Rattle.cmd_engine.specs.Concern.{step_said}
use Rattle.cmd_engine.specs.Hands.{IsOfStep}
use Rattle.cmd_engine.specs.declared.stepped.Stepped.{Stepped}
use Rattle.cmd_engine.proofs.Concerning.{tells_others, tells_concerned}
use Rattle.cmd_engine.proofs.Ruled.{keeps_tried}
use Rattle.cmd_engine.proofs.Trying.{tries_once}
use Rattle.cmd_engine.proofs.tries.try_step_told.Goals as goal

pub returns-clause-answer : goal.returns-clause-answer
returns-clause-answer g c = let i = c.args.its in
    rw (c.outcome.ensures)
    (tries_once (IsOfStep i) (view c.args.pass.now) (view c.step_tried.new.pass) c.requires.free c.step_tried.ensures.free (call.Step i)
    (λ (k : Stepped). step_said k) c.step_tried.result c.step_tried.ensures.comes)

pub returns-clause-rule : goal.returns-clause-rule
returns-clause-rule g c = rw (c.outcome.ensures) (keeps_tried (g.L.MapRule.forbidden c.args.rule.now) (setup c.args.machine.now).start c.args.its
    (view c.step_tried.new.pass).seen c.step_tried.result c.step_tried.ensures.rule)

pub returns-clause-others : goal.returns-clause-others
returns-clause-others g c = rw (c.outcome.ensures)
    (tells_others (setup c.args.machine.now).start c.args.its (view c.step_tried.new.pass).seen c.step_tried.result c.step_tried.ensures.tells)

pub returns-clause-concerned : goal.returns-clause-concerned
returns-clause-concerned g c = rw (c.outcome.ensures)
    (tells_concerned (setup c.args.machine.now).start c.args.its (view c.step_tried.new.pass).seen c.step_tried.result c.step_tried.ensures.tells)
