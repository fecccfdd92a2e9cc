use Rattle.its_turns.specs.Machines.{view}
use Rattle.its_migrate.proofs.Left.{left_for}
use Rattle.its_migrate.proofs.Pendings.{rests_lone, rests_free}
use Rattle.its_migrate.proofs.precopying.precopy.Goals as goal

pub returns-in-Ok : goal.returns-in-Ok
returns-in-Ok c = c.next_machine.ensures c.args.root c.in-Ok.ensures.state

pub left-requires-clause-lone : goal.left-requires-clause-lone
left-requires-clause-lone c = rests_lone (view c.args.root) (view c.savable_parts.new.root) c.in-Err.ensures.rests c.requires.lone

pub left-requires-clause-free : goal.left-requires-clause-free
left-requires-clause-free c = rests_free (view c.args.root) (view c.savable_parts.new.root) c.in-Err.ensures.rests c.requires.free

pub returns-in-Err : goal.returns-in-Err
returns-in-Err c =
    left_for c.args.machine c.args.root c.savable_parts.new.root c.in-Err.error c.left.result c.in-Err.ensures.of c.in-Err.ensures.rests
    c.in-Err.ensures.cause c.left.ensures
