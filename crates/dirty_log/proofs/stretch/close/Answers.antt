use Rattle.std.proofs.Common.{List, sym, ap, subst, ◌∙◌}
use Rattle.dirty_log.specs.Stretches.{numbers, AreLaid}
use Rattle.dirty_log.specs.declared.stretch.Stretch.{Stretch}
use Rattle.dirty_log.proofs.Stretched.{numbers_more, laid_more}
use Rattle.dirty_log.proofs.stretch.close.Goals as goal

pub returns-in_ok-push-clause-numbers : goal.returns-in_ok-push-clause-numbers
returns-in_ok-push-clause-numbers c = ap numbers c.in_ok-push.ensures.items ∙ numbers_more c.args.stretches.now.items c.args.last

pub returns-in_ok-push-clause-laid : goal.returns-in_ok-push-clause-laid
returns-in_ok-push-clause-laid c =
    subst (λ (ss : List Stretch). AreLaid 0 ss) (sym c.in_ok-push.ensures.items)
    (laid_more c.args.stretches.now.items c.args.last c.requires.laid c.requires.place c.if-last.true)
