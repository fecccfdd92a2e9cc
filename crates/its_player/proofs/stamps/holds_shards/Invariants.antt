use Rattle.std.proofs.Common.{ℕ, ◌<◌}
use Rattle.its_types.specs.declared.machine.Part.TheVariants as part
use Rattle.its_steps.specs.Good.{Holds}
use Rattle.its_player.proofs.stamps.holds_shards.Given as goal

abbrev pub invariant-loop-n : goal.invariant-loop-n
invariant-loop-n l = (k : ℕ) → k < l.n → Holds (part.Shard l.its k) l.held
