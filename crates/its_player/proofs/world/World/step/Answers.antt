use Rattle.std.proofs.Common.{ℕ, ◌≤◌, sym, subst}
use Rattle.its_player.specs.Shared.{core_of}
use Rattle.its_steps.specs.Steps.{Core, IsStep}
use Rattle.its_steps.proofs.Cores.{steps}
use Rattle.its_player.proofs.world.World.step.Goals as goal

pub invariant_of-result : goal.invariant_of-result
invariant_of-result c = (
  steps (core_of c.self.inside.shared) c.args.event.now (core_of c.in_ok-shared.shared) c.self.invariant.0 c.in_ok-shared.ensures.steps,
  subst (λ (n : ℕ). 1 ≤ n) (sym c.in_ok-shared.ensures.shards) c.self.invariant.1,
)

pub returns-clause-steps : goal.returns-clause-steps
returns-clause-steps c = subst (λ (x : Core). IsStep x c.args.event.now (core_of c.in_ok-shared.shared)) c.self.view_is c.in_ok-shared.ensures.steps

pub returns-clause-good : goal.returns-clause-good
returns-clause-good c = steps (core_of c.self.inside.shared) c.args.event.now (core_of c.in_ok-shared.shared) c.self.invariant.0 c.in_ok-shared.ensures.steps
