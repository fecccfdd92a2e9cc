use Rattle.std.proofs.Common.{◌≡◌, ◌++◌, Some}
use Rattle.std.specs.Prelude.{replicate}
use Rattle.its_player.specs.declared.content.Content.TheVariants.{Shard}
use Rattle.xlate_cache.specs.Ways.{no_entries}
use Rattle.its_player.proofs.shared.add_shards.Given as goal

abbrev pub invariant-loop-n : goal.invariant-loop-n
invariant-loop-n l = l.slots.items ≡ l.initial.slots.items ++ replicate l._n (Some (Shard no_entries))
