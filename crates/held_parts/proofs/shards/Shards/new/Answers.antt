use Rattle.held_parts.proofs.ShardLoops.{no_shards}
use Rattle.held_parts.proofs.shards.Shards.new.Goals as goal

pub returns : goal.returns
returns c = no_shards 64
