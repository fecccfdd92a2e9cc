use Rattle.std.proofs.Common.{sym, ◌∙◌, subst}
use Rattle.xlate_cache.specs.Ways.{IsShard}
use Rattle.xlate_cache.specs.Laws.{FindsNothing}
use Rattle.xlate_cache.proofs.Sets.{empty_shard, nothing_found}
use Rattle.xlate_cache.proofs.shard.Shard.new.Goals as goal

pub invariant_of-result : goal.invariant_of-result
invariant_of-result c = subst IsShard (sym (c.in_ok-ways.ensures.ok ∙ c.no_ways.ensures)) empty_shard

pub returns-clause-nothing : goal.returns-clause-nothing
returns-clause-nothing c = subst FindsNothing (sym (c.in_ok-ways.ensures.ok ∙ c.no_ways.ensures)) nothing_found
