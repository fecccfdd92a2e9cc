use Rattle.its_migrate.proofs.Left.{taken_left}
use Rattle.its_migrate.proofs.precopying.next_machine.Goals as goal

pub returns-in-Ok : goal.returns-in-Ok
returns-in-Ok c = λ r same. c.in-Ok.ensures r same

pub returns-in-Err : goal.returns-in-Err
returns-in-Err c = λ r same. taken_left c.args.machine.now r (c.args.parts, c.args.track) c.requires same
