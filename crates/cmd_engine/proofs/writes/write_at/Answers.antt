use Rattle.its_plain.specs.declared.call.Call.TheVariants as call
use Rattle.its_plain.specs.declared.call.Reply.TheVariants as reply
use Rattle.its_turns.specs.Machines.{view}
use Rattle.cmd_engine.specs.Hands.{IsOfTranslator}
use Rattle.cmd_engine.proofs.Came.{asks_made, asks_spent, goes_missed}
use Rattle.cmd_engine.proofs.writes.write_at.Goals as goal

pub returns-in-Ok-clause-answer : goal.returns-in-Ok-clause-answer
returns-in-Ok-clause-answer g c = let a = c.args in
    asks_made (IsOfTranslator a.its) (view a.pass.now) (view c.loop.pass) (view c.write_once.new.pass) c.requires.free c.loop.invariant.3
    (call.WriteReg a.its a.off a.size a.value) (λ (u : Unit {0}). reply.Ok) c.in-Ok.ensures.free c.in-Ok.placed c.in-Ok.ensures.comes

pub returns-in-Err-Spent-clause-answer : goal.returns-in-Err-Spent-clause-answer
returns-in-Err-Spent-clause-answer g c = let a = c.args in
    asks_spent (IsOfTranslator a.its) (view a.pass.now) (view c.loop.pass) (view c.write_once.new.pass) c.requires.free c.loop.invariant.3
    (call.WriteReg a.its a.off a.size a.value) (λ (u : Unit {0}). reply.Ok) c.in-Err-Spent.ensures.free
    (rw (c.in-Err-Spent.field-0-is) at c.in-Err-Spent.ensures.comes)

pub loop-preserved : goal.loop-preserved
loop-preserved g c = let a = c.args in (
  tt,
  tt,
  c.write_once.ensures.of,
  goes_missed (IsOfTranslator a.its) (view a.pass.now) (view c.loop.pass) (view c.write_once.new.pass) c.requires.free c.loop.invariant.3
      (call.WriteReg a.its a.off a.size a.value) (λ (u : Unit {0}). reply.Ok) c.write_once.ensures.free c.write_once.result c.in-Err-Raced.field-0
      c.in-Err-Raced.is c.write_once.ensures.comes,
  c.write_once.ensures.free,
)
