use Rattle.std.proofs.Common.{◌≡◌, ℕ, suc, ◌+◌, take, subst, arith}
use Rattle.its_steps.specs.Steps.{IsRun}
use Rattle.its_player.proofs.Stepped.{run_more}
use Rattle.its_player.proofs.world.World.run.Goals as goal

pub loop-event-preserved : goal.loop-event-preserved
loop-event-preserved c =
    let more : suc c.loop-event.event-index ≡ c.loop-event.event-index + 1 = omega arith in
    subst (λ (n : ℕ). IsRun c.args.self (take n c.args.events.now) c.in_ok-world.world) more
    (run_more c.args.self c.args.events.now c.loop-event.event-index c.event-item.result c.loop-event.world c.in_ok-world.world c.loop-event-test.true
    c.event-item.is c.loop-event.invariant c.in_ok-world.ensures.steps)
