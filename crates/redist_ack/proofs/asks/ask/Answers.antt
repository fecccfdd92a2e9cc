use Rattle.its_types.specs.declared.machine.Part.TheVariants as part
use Rattle.its_plain.specs.declared.call.Reply.TheVariants as reply
use Rattle.its_turns.specs.Machines.{view}
use Rattle.redist_ack.specs.Offers.{call_of}
use Rattle.redist_ack.proofs.TwoParts.{again_both_busy, again_both_raced, asked_both_spent, asked_both_done}
use Rattle.redist_ack.proofs.asks.ask.Goals as goal

pub returns-in-Done-clause-answer : goal.returns-in-Done-clause-answer
returns-in-Done-clause-answer g c =
    let x = c.in-Done.placed in let vcpu = c.args.vcpu in
    asked_both_done (view c.args.pass.now) (view c.loop.pass) (part.Conf vcpu) (part.Pend vcpu) c.loop.invariant.3 (call_of vcpu c.args.asked)
    (reply.Ack x.reply) x.place (view c.try_ask.new.pass) c.in-Done.ensures.answer

pub returns-in-Spent-clause-answer : goal.returns-in-Spent-clause-answer
returns-in-Spent-clause-answer g c =
    let vcpu = c.args.vcpu in
    asked_both_spent (view c.args.pass.now) (view c.loop.pass) (part.Conf vcpu) (part.Pend vcpu) c.loop.invariant.3 (view c.try_ask.new.pass)
    c.in-Spent.ensures.answer

pub loop-preserved : goal.loop-preserved
loop-preserved g c = let vcpu = c.args.vcpu in (
  tt,
  tt,
  c.try_ask.ensures.of,
  again_both_raced (view c.args.pass.now) (view c.loop.pass) (part.Conf vcpu) (part.Pend vcpu) c.loop.invariant.3 c.in-Raced.field-0
      (view c.try_ask.new.pass) c.in-Raced.ensures.answer,
)

pub loop-preserved-in-Busy : goal.loop-preserved-in-Busy
loop-preserved-in-Busy g c = let vcpu = c.args.vcpu in (
  tt,
  tt,
  c.try_ask.ensures.of,
  again_both_busy (view c.args.pass.now) (view c.loop.pass) (part.Conf vcpu) (part.Pend vcpu) c.loop.invariant.3 c.in-Busy.field-0
      (view c.try_ask.new.pass) c.in-Busy.ensures.answer,
)
