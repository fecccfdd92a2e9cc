use Rattle.std.proofs.Common.{take}
use Rattle.its_steps.specs.Steps.{IsRun}
use Rattle.its_player.proofs.world.World.run.Given as goal

abbrev pub invariant-loop-event : goal.invariant-loop-event
invariant-loop-event l = IsRun l.fn.self (take l.event-index l.events) l.world
