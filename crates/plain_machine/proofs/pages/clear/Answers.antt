use Rattle.std.proofs.Common.{false}
use Rattle.dirty_log.specs.Pages.{set_one}
use Rattle.plain_machine.proofs.Mapped.{mapped_at}
use Rattle.plain_machine.proofs.pages.clear.Goals as goal

pub loop-at-preserved : goal.loop-at-preserved
loop-at-preserved c = mapped_at (set_one false) c.args.pages.now c.loop-at.pages c.loop-at.at _ c.clean.result c.loop-at-test.true c.loop-at.invariant
    c.clean.ensures
