use Rattle.std.proofs.Common.{arith}
use Rattle.std.proofs.lemmas.Result.{on_ok_weaker}
use Rattle.guest_windows.specs.Drafts.{laid}
use Rattle.table_save.proofs.PageTables.{this_page}
use Rattle.table_save.proofs.Rises.{later_rises}
use Rattle.table_save.proofs.devices.put_page.Goals as goal

pub skip_below-requires-clause-rises : goal.skip_below-requires-clause-rises
skip_below-requires-clause-rises c = later_rises c.args.first 0 c.args.front.now c.requires.rises (omega arith)

pub returns-in-Some-clause-memory : goal.returns-in-Some-clause-memory
returns-in-Some-clause-memory c =
    on_ok_weaker c.put_places.result
    (this_page (laid c.args.draft.now c.args.under.now)
    (laid c.put_places.new.draft c.args.under.now) c.args.front.now c.args.first c.args.count c.args.page c.in-Some.base
    c.in-Some.is) c.put_places.ensures.memory
