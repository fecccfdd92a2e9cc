use Rattle.its_turns.specs.Machines.{view}
use Rattle.held_parts.proofs.Going.{waits_more}
use Rattle.held_parts.proofs.turns.wait_for.Goals as goal

pub loop-preserved : goal.loop-preserved
loop-preserved g c = (
  tt,
  tt,
  c.try_take.ensures.of,
  waits_more (view c.args.pass.now) (view c.loop.pass) (view c.try_take.new.pass) c.args.part c.in-Err.field-0 c.loop.invariant.3 c.in-Err.ensures.result,
)
