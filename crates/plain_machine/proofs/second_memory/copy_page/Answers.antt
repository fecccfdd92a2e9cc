use Rattle.std.proofs.Common.{◌∙◌}
use Rattle.guest_windows.specs.Mixed.{mixed_windows}
use Rattle.dirty_log.proofs.Copying.{never, of_clean}
use Rattle.dirty_log.specs.Listing.{is_of_dirty}
use Rattle.plain_machine.proofs.Copying.{dirty_test}
use Rattle.plain_machine.proofs.second_memory.copy_page.Goals as goal

pub returns-then-page : goal.returns-then-page
returns-then-page c = c.copy_page.ensures ∙ (λ i. mixed_windows (λ a. dirty_test c.args.page c.if-page.true a i) c.args.memory.now c.args.copy.now)

pub returns-else-page : goal.returns-else-page
returns-else-page c = never (is_of_dirty c.args.page) (of_clean c.args.page c.if-page.false) c.args.memory.now c.args.copy.now
