use Rattle.xlate_cache.proofs.Lawful.{IsPartlyDropped}
use Rattle.xlate_cache.proofs.shard.Shard.drop_event.Given as goal

abbrev pub invariant-loop-way : goal.invariant-loop-way
invariant-loop-way l = IsPartlyDropped l.initial.self-inside.ways.value l.self-inside.ways.value l.dev.0 l.ev.0 l.way
