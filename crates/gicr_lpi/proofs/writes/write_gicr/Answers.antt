use Rattle.its_plain.specs.declared.call.Reply.TheVariants as reply
use Rattle.its_turns.specs.Machines.{setup, view}
use Rattle.gicr_lpi.specs.Accesses.{access, write_call, IsOfWrite}
use Rattle.gicr_lpi.proofs.Repeated.{again_taken, again_raced, asked_done, asked_spent, asked_given_up}
use Rattle.gicr_lpi.proofs.writes.write_gicr.Goals as goal

pub returns-in-Ok-Done-clause-answer : goal.returns-in-Ok-Done-clause-answer
returns-in-Ok-Done-clause-answer g c = let x = c.in-Ok-Done.placed in let a = access c.args.vcpu c.args.off c.args.size c.args.value in
    asked_done (IsOfWrite (setup c.args.machine.now) a) (view c.args.pass.now) (view c.loop.pass) c.loop.invariant.3 (write_call a) reply.Ok x.place
    (view c.try_access.new.pass) (rw c.in-Ok-Done.field-0-is at c.in-Ok-Done.ensures.answer)

pub returns-in-Ok-Spent-clause-answer : goal.returns-in-Ok-Spent-clause-answer
returns-in-Ok-Spent-clause-answer g c = let a = access c.args.vcpu c.args.off c.args.size c.args.value in
    asked_spent (IsOfWrite (setup c.args.machine.now) a) (view c.args.pass.now) (view c.loop.pass) c.loop.invariant.3
    (view c.try_access.new.pass) (rw c.in-Ok-Spent.field-0-is at c.in-Ok-Spent.ensures.answer)

pub returns-in-Err-clause-answer : goal.returns-in-Err-clause-answer
returns-in-Err-clause-answer g c = let a = access c.args.vcpu c.args.off c.args.size c.args.value in let none = c.in-Err.ensures.answer in
    let up = asked_given_up (IsOfWrite (setup c.args.machine.now) a) (view c.args.pass.now) (view c.loop.pass) c.loop.invariant.3
    (view c.try_access.new.pass) none.got none.only none.up in
    (up.0, up.1, none.asked)

pub loop-preserved-in-Ok-Busy : goal.loop-preserved-in-Ok-Busy
loop-preserved-in-Ok-Busy g c = let a = access c.args.vcpu c.args.off c.args.size c.args.value in (
  tt,
  tt,
  c.try_access.ensures.of,
  again_taken (IsOfWrite (setup c.args.machine.now) a) (view c.args.pass.now) (view c.loop.pass) c.loop.invariant.3 c.in-Ok-Busy.field-0-0
      (view c.try_access.new.pass) (rw c.in-Ok-Busy.field-0-is at c.in-Ok-Busy.ensures.answer),
)

pub loop-preserved : goal.loop-preserved
loop-preserved g c = let a = access c.args.vcpu c.args.off c.args.size c.args.value in (
  tt,
  tt,
  c.try_access.ensures.of,
  again_raced (IsOfWrite (setup c.args.machine.now) a) (view c.args.pass.now) (view c.loop.pass) c.loop.invariant.3 c.in-Ok-Raced.field-0-0
      (view c.try_access.new.pass) (rw c.in-Ok-Raced.field-0-is at c.in-Ok-Raced.ensures.answer),
)
