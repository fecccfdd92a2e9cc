use Rattle.std.proofs.Common.{ℕ, ◌≤◌, sym, subst}
use Rattle.its_steps.specs.Steps.{IsGoodCore}
use Rattle.its_steps.proofs.First.{first}
use Rattle.its_player.proofs.world.World.new.Goals as goal

pub invariant_of-result : goal.invariant_of-result
invariant_of-result c = (
  subst IsGoodCore (sym c.in_ok-new.ensures.first)
      (first (record { start = c.args.start; limits = c.args.limits; shards = c.args.shards }) c.requires.sound),
  subst (λ (n : ℕ). 1 ≤ n)
      (sym c.in_ok-new.ensures.shards) c.requires.some,
)
