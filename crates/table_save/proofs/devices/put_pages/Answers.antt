use Rattle.std.proofs.Common.{refl}
use Rattle.std.specs.FinMap.{entries}
use Rattle.guest_windows.specs.Drafts.{laid}
use Rattle.table_save.proofs.PageTables.{no_pages, page_more, past_page}
use Rattle.table_save.proofs.Rises.{map_rises}
use Rattle.table_save.proofs.devices.put_pages.Goals as goal

pub loop-k-init : goal.loop-k-init
loop-k-init c =
    let m = c.args.maps.now.maps.devices in
    rw c.new-front.ensures (record { written = refl; passed = no_pages (entries m) c.args.per_page (map_rises m) c.requires.fit })

pub loop-k-preserved : goal.loop-k-preserved
loop-k-preserved c =
    let all = entries c.args.maps.now.maps.devices in let v = c.loop-k.invariant in
    record {
      written = page_more (laid c.args.draft.now c.args.under.now) (laid c.loop-k.draft c.args.under.now)
          (laid c.put_page.new.draft c.args.under.now) all c.loop-k.front c.args.per_page c.args.pages.now c.loop-k.k v.written
          v.passed c.in_ok-put_page.ensures.memory;
      passed = past_page all c.loop-k.front c.put_page.new.front c.args.per_page c.loop-k.k v.passed c.in_ok-put_page.ensures.rest;
    }
