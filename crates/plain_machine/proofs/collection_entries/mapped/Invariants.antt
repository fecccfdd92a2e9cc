use Rattle.std.proofs.Common.{◌≡◌, take}
use Rattle.plain_machine.proofs.collection_entries.mapped.Given as goal

abbrev pub invariant-loop-icid : goal.invariant-loop-icid
invariant-loop-icid l = l.list.items ≡ take l.icid-index l.collections
