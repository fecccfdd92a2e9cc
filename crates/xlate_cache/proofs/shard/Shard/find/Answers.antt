use Rattle.std.proofs.Common.{◌+◌, slice_range, ap, ◌∙◌}
use Rattle.xlate_cache.specs.Ways.{found}
use Rattle.xlate_cache.proofs.Founds.{finds}
use Rattle.xlate_cache.proofs.Sets.{found_in_set}
use Rattle.xlate_cache.proofs.shard.Shard.find.Goals as goal

pub returns-clause-found : goal.returns-clause-found
returns-clause-found c =
    c.find_in.ensures
    ∙ (λ i. found (slice_range (c.deref-ways.ensures i) (c.first_way-first.ensures i) (c.first_way-first.ensures i + 4)) c.args.dev.0 c.args.ev.0 c.args.stamp)
    ∙ found_in_set c.self.inside.ways.value c.self.invariant c.args.dev.0 c.args.ev.0 c.args.stamp
    ∙ ap (λ ways. found ways c.args.dev.0 c.args.ev.0 c.args.stamp) c.self.view_is

pub returns-clause-entry : goal.returns-clause-entry
returns-clause-entry c = finds c.args.dev.0 c.args.ev.0 c.args.stamp c.args.self.now
