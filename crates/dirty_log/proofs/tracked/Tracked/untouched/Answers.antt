use Rattle.std.proofs.Common.{true, ap, ◌∙◌}
use Rattle.guest_windows.specs.Fields.{pairs}
use Rattle.dirty_log.specs.Pages.{pages_of, set_all}
use Rattle.dirty_log.proofs.Copying.{set_pages}
use Rattle.dirty_log.proofs.tracked.Tracked.untouched.Goals as goal

pub returns-clause-ok : goal.returns-clause-ok
returns-clause-ok c = λ i. record {
  copy = c.in_ok-copy.ensures.ok i;
  log = (c.mark_all.ensures ∙ ap (set_all true) c.in_ok-log.ensures ∙ set_pages true (pages_of (pairs c.args.windows.now))) i;
}
