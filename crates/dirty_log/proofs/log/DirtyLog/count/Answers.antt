use Rattle.std.proofs.Common.{ap, ◌∙◌}
use Rattle.dirty_log.specs.Pages.{dirty_count}
use Rattle.dirty_log.specs.Stretches.{numbers}
use Rattle.dirty_log.proofs.Paged.{counted}
use Rattle.dirty_log.proofs.log.DirtyLog.count.Goals as goal

pub returns : goal.returns
returns c =
    let i = c.self.inside in
    c.count.ensures ∙ counted (numbers i.stretches.items) i.marks c.self.invariant.size ∙ ap dirty_count c.self.view_is
