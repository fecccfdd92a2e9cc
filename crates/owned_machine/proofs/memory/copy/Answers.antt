use Rattle.owned_machine.proofs.Written.{copy_goes}
use Rattle.owned_machine.proofs.memory.copy.Goals as goal

pub returns-in-Some-clause-left : goal.returns-in-Some-clause-left
returns-in-Some-clause-left c =
    copy_goes c.args.parts.now c.in-Some.track c.copy_from.new.self c.requires c.in-Some.is c.copy_from.ensures.copied
