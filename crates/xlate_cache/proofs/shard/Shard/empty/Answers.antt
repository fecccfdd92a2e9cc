use Rattle.std.proofs.Common.{sym, subst}
use Rattle.xlate_cache.specs.Ways.{IsShard}
use Rattle.xlate_cache.specs.Laws.{FindsNothing}
use Rattle.xlate_cache.proofs.Sets.{empty_shard, nothing_found}
use Rattle.xlate_cache.proofs.shard.Shard.empty.Goals as goal

pub invariant_of-self : goal.invariant_of-self
invariant_of-self c = subst IsShard (sym c.no_ways.ensures) empty_shard

pub returns-clause-nothing : goal.returns-clause-nothing
returns-clause-nothing c = subst FindsNothing (sym c.no_ways.ensures) nothing_found
