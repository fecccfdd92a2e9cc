use Rattle.std.proofs.Common.{◌≡◌, ◌*◌, ◌++◌, Some}
use Rattle.std.specs.Prelude.{replicate}
use Rattle.its_player.specs.declared.content.Content.TheVariants.{Shard}
use Rattle.xlate_cache.specs.Ways.{no_entries}
use Rattle.its_player.proofs.shared.first_slots.Given as goal

abbrev pub invariant-loop-translator : goal.invariant-loop-translator
invariant-loop-translator l = l.slots.items ≡ l.initial.slots.items ++ replicate (l._translator-index * l.shards) (Some (Shard no_entries))
