use Rattle.its_plain.specs.declared.call.Call.TheVariants as call
use Rattle.its_plain.specs.declared.call.Reply.TheVariants as reply
use Rattle.its_turns.specs.Machines.{view}
use Rattle.cmd_engine.specs.Hands.{IsOfTranslator}
use Rattle.cmd_engine.proofs.Trying.{tries_once}
use Rattle.cmd_engine.proofs.tries.try_write_at.Goals as goal

pub returns-clause-answer : goal.returns-clause-answer
returns-clause-answer g c = let a = c.args in
    rw (c.outcome.ensures)
    (tries_once (IsOfTranslator a.its) (view a.pass.now) (view c.write_tried.new.pass) c.requires.free c.write_tried.ensures.free
    (call.WriteReg a.its a.off a.size a.value) (λ (u : Unit {0}). reply.Ok) c.write_tried.result c.write_tried.ensures.comes)
