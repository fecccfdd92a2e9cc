use Rattle.std.proofs.Common.{subst}
use Rattle.xlate_cache.specs.Ways.{entry}
use Rattle.xlate_cache.specs.Laws.{FindsFill, LeavesOthers, TakesCurrentIfFull}
use Rattle.xlate_cache.proofs.Lawful.{finds_fill, leaves_others, takes_current_if_full}
use Rattle.xlate_cache.proofs.shard.Shard.fill.Goals as goal

pub returns-clause-found : goal.returns-clause-found
returns-clause-found c = subst (λ ways. FindsFill ways (entry c.args.dev c.args.ev c.args.stamp c.args.target)) c.self.view_is
    (finds_fill c.self.inside.ways.value c.self.invariant (entry c.args.dev c.args.ev c.args.stamp c.args.target))

pub returns-clause-others : goal.returns-clause-others
returns-clause-others c = subst (λ ways. LeavesOthers ways (entry c.args.dev c.args.ev c.args.stamp c.args.target)) c.self.view_is
    (leaves_others c.self.inside.ways.value c.self.invariant (entry c.args.dev c.args.ev c.args.stamp c.args.target))

pub returns-clause-current : goal.returns-clause-current
returns-clause-current c = subst (λ ways. TakesCurrentIfFull ways (entry c.args.dev c.args.ev c.args.stamp c.args.target)) c.self.view_is
    (takes_current_if_full c.self.inside.ways.value c.self.invariant (entry c.args.dev c.args.ev c.args.stamp c.args.target))
