use Rattle.std.proofs.Common.{◌<◌, ◌∙◌, ap, subst}
use Rattle.table_save.proofs.Overlaps.{met_so}
use Rattle.table_save.proofs.edges.Edges.met_by.Goals as goal

pub returns-clause-met : goal.returns-clause-met
returns-clause-met c = λ areas edges.
    let a = c.args.area.now in
    c.saturating_sub.ensures
    ∙ met_so a (subst (λ e. a.base < e) c.end.ensures.end c.end.ensures.some) areas c.args.self.now c.deref.result.now c.deref-2.result.now c.base.result
    c.end.result c.count_below-begun.result c.count_below-ended.result
    edges (c.deref.ensures.value ∙ ap (λ e. e.bases) c.self.view_is) (c.deref-2.ensures.value ∙ ap (λ e. e.ends) c.self.view_is) c.base.ensures
    c.end.ensures.end c.count_below-begun.ensures c.count_below-ended.ensures
