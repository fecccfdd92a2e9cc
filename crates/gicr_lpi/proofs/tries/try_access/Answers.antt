use Rattle.its_plain.specs.declared.call.Reply.TheVariants as reply
use Rattle.its_turns.specs.Machines.{setup, view}
use Rattle.gicr_lpi.specs.Accesses.{write_call, IsOfWrite}
use Rattle.gicr_lpi.proofs.Once.{once_lost}
use Rattle.gicr_lpi.proofs.tries.try_access.Goals as goal

pub returns-in-Err-write_with-clause-answer : goal.returns-in-Err-write_with-clause-answer
returns-in-Err-write_with-clause-answer g c =
    let s = setup c.args.machine.now in let has = c.in-Ok.ensures.result in
    rw (c.attempt.ensures) (once_lost (IsOfWrite s c.args.access) (view c.args.pass.now) (view c.try_hand.new.pass) has.took c.requires.free
    (write_call c.args.access) (λ (u : Unit {0}). reply.Ok) (view c.write_with.new.pass) c.in-Err-write_with.lost c.in-Err-write_with.ensures.answer)
