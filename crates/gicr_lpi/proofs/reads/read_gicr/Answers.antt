use Rattle.its_types.specs.declared.machine.Part.TheVariants as part
use Rattle.its_plain.specs.declared.call.Call.TheVariants as call
use Rattle.its_plain.specs.declared.call.Reply.TheVariants as reply
use Rattle.its_turns.specs.Machines.{view}
use Rattle.its_turns.proofs.Telling.{again_raced, asked_spent, asked_done}
use Rattle.gicr_lpi.proofs.reads.read_gicr.Goals as goal

pub returns-in-Done-clause-answer : goal.returns-in-Done-clause-answer
returns-in-Done-clause-answer g c = let x = c.in-Done.placed in let p = part.Conf c.args.vcpu in
    asked_done (view c.args.pass.now) (view c.loop.pass) p c.loop.invariant.3 (call.ReadGicr c.args.vcpu c.args.off c.args.size) (reply.Value x.reply) x.place
    (view c.try_read_gicr.new.pass) c.in-Done.ensures.answer

pub returns-in-Spent-clause-answer : goal.returns-in-Spent-clause-answer
returns-in-Spent-clause-answer g c = asked_spent (view c.args.pass.now) (view c.loop.pass) (part.Conf c.args.vcpu) c.loop.invariant.3
    (view c.try_read_gicr.new.pass) c.in-Spent.ensures.answer

pub loop-preserved : goal.loop-preserved
loop-preserved g c = (
  tt,
  tt,
  c.try_read_gicr.ensures.of,
  again_raced (view c.args.pass.now) (view c.loop.pass) (part.Conf c.args.vcpu) c.loop.invariant.3
      c.in-Raced.field-0 (view c.try_read_gicr.new.pass) c.in-Raced.ensures.answer,
)
