use Rattle.dirty_log.specs.Pages.{mark_one}
use Rattle.plain_machine.proofs.Mapped.{mapped_at}
use Rattle.plain_machine.proofs.pages.mark.Goals as goal

pub loop-at-preserved : goal.loop-at-preserved
loop-at-preserved c = mapped_at (mark_one c.args.addr c.args.len) c.args.pages.now c.loop-at.pages c.loop-at.at _ c.mark_one.result c.loop-at-test.true
    c.loop-at.invariant c.mark_one.ensures
