use Rattle.std.proofs.Common.{◌∙◌, ap, sym}
use Rattle.its_plain.specs.Commands.{all_reread_at}
use Rattle.plain_machine.proofs.Mapped.{mapped_more}
use Rattle.plain_machine.proofs.redists.reread_each.Goals as goal

pub loop-redist-preserved : goal.loop-redist-preserved
loop-redist-preserved c =
    mapped_more (all_reread_at c.args.memory.now c.args.intids.now) c.args.all.now c.loop-redist.all c.loop-redist.redist-index c.redist-item.result
    c.reread_all.new.self c.loop-redist-test.true c.loop-redist.invariant c.redist-item.is
    (c.reread_all.ensures ∙ ap (all_reread_at c.args.memory.now c.args.intids.now) (sym c.redist-item.is))
