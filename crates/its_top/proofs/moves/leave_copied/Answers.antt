use Rattle.event_script.specs.declared.script.Move.TheVariants.{Precopy}
use Rattle.its_top.proofs.Moving.{left_copied_for}
use Rattle.its_top.proofs.moves.leave_copied.Goals as goal

pub returns-in-Err : goal.returns-in-Err
returns-in-Err c = left_copied_for c.args.machine c.args.root Precopy c.in-Err.error c.error_of.result _ c.error_of.ensures c.in-Err.ensures c.left_for.ensures
