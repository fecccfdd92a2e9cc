use Rattle.std.proofs.Common.{◌≡◌, ◌-◌, List}
use Rattle.its_steps.specs.Contents.{Held}
use Rattle.its_turns.specs.Machines.{view, IsOf}
use Rattle.held_parts.specs.Shards.{shards_held}
use Rattle.held_parts.specs.Taking.{holding}
use Rattle.held_parts.proofs.ShardLoops.{AreLeft}
use Rattle.held_parts.proofs.shards.put_first.Given as goal

abbrev pub invariant-loop-k : goal.invariant-loop-k
invariant-loop-k l = record {
  of : IsOf l.machine l.pass;
  home : (before : List Held) → (view l.fn.pass).held ≡ shards_held l.its l.fn.shards l.count before → view l.pass ≡ holding (view l.fn.pass)
      (shards_held l.its l.fn.shards (l.count - l.k) before);
  left : AreLeft (l.count - l.k) l.fn.shards l.shards;
}
