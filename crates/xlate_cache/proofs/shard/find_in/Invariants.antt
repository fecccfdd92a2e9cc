use Rattle.std.proofs.Common.{◌≡◌, drop}
use Rattle.xlate_cache.specs.Ways.{found}
use Rattle.xlate_cache.proofs.shard.find_in.Given as goal

abbrev pub invariant-loop-way : goal.invariant-loop-way
invariant-loop-way l = found (drop l.way-index l.set) l.dev.0 l.ev.0 l.stamp ≡ found l.set l.dev.0 l.ev.0 l.stamp
