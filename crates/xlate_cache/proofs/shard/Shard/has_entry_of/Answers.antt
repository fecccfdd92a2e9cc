use Rattle.std.proofs.Common.{◌+◌, slice_range, ◌∙◌}
use Rattle.xlate_cache.specs.Observed.{has_entry_of}
use Rattle.xlate_cache.proofs.Sets.{any_in_set}
use Rattle.xlate_cache.proofs.shard.Shard.has_entry_of.Goals as goal

pub returns : goal.returns
returns c =
    c.any_of.ensures
    ∙ (λ i. has_entry_of (slice_range (c.ways.ensures.ways i) (c.first_way-first.ensures i) (c.first_way-first.ensures i + 4)) c.args.dev.0 c.args.ev.0)
    ∙ any_in_set c.args.self.now c.ways.ensures.shard c.args.dev.0 c.args.ev.0
