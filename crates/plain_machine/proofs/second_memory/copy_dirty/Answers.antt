use Rattle.std.proofs.Common.{[], take, map, refl, ap, ◌∙◌}
use Rattle.guest_windows.specs.Windows.{extent}
use Rattle.guest_windows.proofs.Mixed.{extents_mixed}
use Rattle.dirty_log.specs.Copies.{in_dirty}
use Rattle.dirty_log.proofs.Copying.{never}
use Rattle.plain_machine.proofs.Copying.{one_more}
use Rattle.plain_machine.proofs.second_memory.copy_dirty.Goals as goal

pub loop-page-init : goal.loop-page-init
loop-page-init c = never (in_dirty []) (λ a. refl) c.args.memory.now c.args.copy.now

pub copy_page-requires-clause-same : goal.copy_page-requires-clause-same
copy_page-requires-clause-same c =
    ap (map extent) c.loop-page.invariant
    ∙ extents_mixed (in_dirty (take c.loop-page.page-index c.args.pages.now)) c.args.memory.now c.args.copy.now ∙ c.requires.same

pub loop-page-preserved : goal.loop-page-preserved
loop-page-preserved c = one_more c.args.memory.now c.args.copy.now c.loop-page.copy c.copy_page.new.copy c.args.pages.now c.loop-page.page-index _
    c.loop-page-test.true c.loop-page.invariant c.copy_page.ensures
