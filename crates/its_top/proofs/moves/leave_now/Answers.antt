use Rattle.event_script.specs.declared.script.Move.TheVariants.{Migrate}
use Rattle.its_top.proofs.Moving.{left_for}
use Rattle.its_top.proofs.moves.leave_now.Goals as goal

pub returns-in-Err : goal.returns-in-Err
returns-in-Err c = left_for c.args.machine c.args.root Migrate c.in-Err.kept.2 _ c.in-Err.ensures.3 c.left_for.ensures
