use Rattle.its_turns.specs.Machines.{view, IsOf}
use Rattle.held_parts.specs.Shards.{IsShardOf}
use Rattle.held_parts.specs.Once.{TakesAtOnce}
use Rattle.held_parts.proofs.ShardLoops.{AreTaken}
use Rattle.held_parts.proofs.shards.once_shards.Given as goal

abbrev pub invariant-loop-number : goal.invariant-loop-number
invariant-loop-number l = record {
  of : IsOf l.machine l.pass;
  takes : TakesAtOnce (IsShardOf l.its) (view l.fn.pass) (view l.pass);
  taken : AreTaken l.its l.number l.shards (view l.fn.pass).held (view l.pass).held;
}
