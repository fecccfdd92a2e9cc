use Rattle.its_types.specs.declared.machine.Part.TheVariants as part
use Rattle.its_turns.specs.Machines.{view}
use Rattle.its_turns.proofs.Telling.{again_raced, asked_spent, asked_done, asked_given_up}
use Rattle.guest_port.specs.Pokes.{write_of}
use Rattle.guest_port.proofs.asks.write.Goals as goal

pub returns-in-Ok-Done-clause-answer : goal.returns-in-Ok-Done-clause-answer
returns-in-Ok-Done-clause-answer g c = let x = c.in-Ok-Done.placed in
    asked_done (view c.args.pass.now) (view c.loop.pass) part.Mem c.loop.invariant.3 (write_of c.args.writer c.args.addr c.args.bytes.now) x.reply x.place
    (view c.try_write.new.pass) (rw c.in-Ok-Done.field-0-is at c.in-Ok-Done.ensures.answer)

pub returns-in-Ok-Spent-clause-answer : goal.returns-in-Ok-Spent-clause-answer
returns-in-Ok-Spent-clause-answer g c = asked_spent (view c.args.pass.now) (view c.loop.pass) part.Mem c.loop.invariant.3
    (view c.try_write.new.pass) (rw c.in-Ok-Spent.field-0-is at c.in-Ok-Spent.ensures.answer)

pub returns-in-Err-clause-answer : goal.returns-in-Err-clause-answer
returns-in-Err-clause-answer g c = asked_given_up (view c.args.pass.now) (view c.loop.pass) part.Mem c.loop.invariant.3
    (view c.try_write.new.pass) c.in-Err.ensures.answer

pub loop-preserved : goal.loop-preserved
loop-preserved g c = (
  tt,
  tt,
  c.try_write.ensures.of,
  again_raced (view c.args.pass.now) (view c.loop.pass) part.Mem c.loop.invariant.3 c.in-Ok-Raced.field-0-0
      (view c.try_write.new.pass) (rw c.in-Ok-Raced.field-0-is at c.in-Ok-Raced.ensures.answer),
)
